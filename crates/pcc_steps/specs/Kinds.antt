-- The types of subspaces, by what sets them apart (ACPI 6.5, 14.1 to 14.4).
use Rattle.std.specs.Prelude.{◌≡◌, ℕ, ◌≤◌, ◌==◌, ◌||◌, ltb, Bool, true, if◌then◌else◌}

-- types 0 to 2: the header holds the status of a command, and its code has one byte
abbrev pub is_headed : ℕ → Bool
is_headed kind = ltb kind 3

abbrev pub IsHeaded : ℕ → Type 0
IsHeaded kind = kind ≤ 2

-- types 3 to 5: a register says whether a command is complete
abbrev pub IsRegistered : ℕ → Type 0
IsRegistered kind = 3 ≤ kind

-- type 3: an extended header, and the operating system asks
abbrev pub is_initiator : ℕ → Bool
is_initiator kind = kind == 3

abbrev pub IsInitiator : ℕ → Type 0
IsInitiator kind = kind ≡ 3

-- type 4: an extended header, and the platform asks
abbrev pub is_responder : ℕ → Bool
is_responder kind = kind == 4

abbrev pub IsResponder : ℕ → Type 0
IsResponder kind = kind ≡ 4

-- types 3 and 4: a header of 16 bytes
abbrev pub is_extended : ℕ → Bool
is_extended kind = is_initiator kind || is_responder kind

-- type 5: a header that has no place to ask for a notification
abbrev pub is_reduced : ℕ → Bool
is_reduced kind = kind == 5

abbrev pub IsReduced : ℕ → Type 0
IsReduced kind = kind ≡ 5

-- types 2 and 3: the asking side acknowledges the interrupt, where there is a register for that
abbrev pub may_acknowledge : ℕ → Bool
may_acknowledge kind = if kind == 2 then true else is_initiator kind
