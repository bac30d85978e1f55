-- A scenario that is made up: one Bank, and as many calls on it as are asked for.
use Rattle.std.specs.Prelude.{ℕ, zero, suc, ◌+◌, ◌*◌, ◌%◌, ◌^◌, ◌==◌, if◌then◌else◌}
use Rattle.std.specs.Prelude.{List, [], ◌∷◌, ◌++◌, map, None, codes}
use Rattle.std.specs.Int.{bytes_low_first}
use Rattle.std.specs.List.{flat_map, range_with_len}
use Rattle.pcc_script.specs.declared.scenario.Device.TheVariants.{Bank}
use Rattle.pcc_script.specs.declared.scenario.Line.{Line}
use Rattle.pcc_script.specs.declared.scenario.Line.TheVariants as line
use Rattle.pcc_script.specs.declared.scenario.Scenario.{Scenario}

-- ---- the table

-- a number in n bytes, the lowest of them first
abbrev pub little : ℕ → ℕ → List ℕ
little n x = bytes_low_first 0 n x

-- the fields of the header, 48 bytes (ACPI 6.5, 5.2.6 and 14.1): signature, length, revision, checksum, OEM ID, OEM table ID, OEM revision,
-- creator ID, creator revision, flags and reserved bytes
abbrev pub header_fields : List (List ℕ)
header_fields =
    codes "PCCT" ∷ little 4 110 ∷ little 1 2 ∷ little 1 110 ∷ codes "PCCRUN"
    ∷ codes "EXAMPLE1" ∷ little 4 1 ∷ codes "TEST" ∷ little 4 1 ∷ little 4 0 ∷ little 8 0 ∷ []

-- a register (5.2.3.2): address space, bit width, bit offset, access size, address
abbrev pub register_fields : ℕ → ℕ → ℕ → ℕ → ℕ → List (List ℕ)
register_fields space width offset access address = little 1 space ∷ little 1 width ∷ little 1 offset ∷ little 1 access ∷ little 8 address ∷ []

-- the fields of the structure, 62 bytes (14.1.3): type, size, reserved bytes, base and length of the shared memory, the doorbell register,
-- the doorbell's preserve and write masks, latency, rate and turnaround
abbrev pub generic_subspace_fields : List (List ℕ)
generic_subspace_fields =
    (little 1 0 ∷ little 1 62 ∷ little 6 0 ∷ little 8 2147483648 ∷ little 8 24 ∷ [])
    ++ (register_fields 0 32 0 3 4275044352 ++ (little 8 4294967294 ∷ little 8 1 ∷ little 4 1000 ∷ little 4 0 ∷ little 2 0 ∷ []))

-- a table with one generic subspace of 24 bytes of shared memory, with neither a rate limit nor a turnaround
unfoldable pub one_generic_subspace : List ℕ
one_generic_subspace = flat_map (λ field. field) (header_fields ++ generic_subspace_fields)

-- ---- the calls

-- the next number of the generator, modulo 2 ^ 64
unfoldable pub next_generated : ℕ → ℕ
next_generated x = (x * 6364136223846793005 + 1442695040888963407) % 2 ^ 64

-- the numbers of the generator, from place 0 on
abbrev pub generated : ℕ → ℕ
generated zero = 1
generated (suc place) = next_generated (generated place)

-- the command code at a place: each fifth is 17, with which a Bank fetches, and the others are 16, with which it exchanges
abbrev pub made_code : ℕ → ℕ
made_code place = if place % 5 == 4 then 17 else 16

-- a call at a place with the bytes of a number. The workers are 0 to 3 in turn, each call looks three times, and the holds are 0 to 3 in turn.
abbrev pub call_with : ℕ → ℕ → Line
call_with place x = line.Call (place % 4) 0 (made_code place) (little 8 x) 3 (place % 4)

-- the call at a place: its bytes are the number of the generator at that place
abbrev pub made_call : ℕ → Line
made_call place = call_with place (generated place)

-- the calls at the places from 0 on
unfoldable pub made_calls : ℕ → List Line
made_calls n = map made_call (range_with_len 0 n)

-- a scenario of n calls
unfoldable pub made_scenario_of : ℕ → Scenario
made_scenario_of n = record {
  table = one_generic_subspace;
  start = 0;
  step = 10;
  opens = record { id = 0; device = Bank } ∷ [];
  cpus = [];
  caps = [];
  actions = made_calls n;
  picks = None;
}
