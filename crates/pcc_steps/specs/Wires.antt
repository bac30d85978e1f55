-- How a subspace is wired, and what its words say (ACPI 6.5, 14.1 and 14.2).
use Rattle.std.specs.Prelude.{◌≡◌, ◌≢◌, ℕ, ◌+◌, ◌-◌, ◌/◌, ◌%◌, ◌^◌, ◌≤◌, ◌==◌, Bool, true, false, not, if◌then◌else◌, List, [], ◌∷◌, ◌++◌, get_or, bit_and, bit_or}
use Rattle.pcc_gas.specs.declared.mask.Masks.{Masks}
use Rattle.shmem_header.specs.HeaderBits.{header_word, is_set, code_in, command_in}
use Rattle.shmem_header.specs.Layout.{signature_of}
use Rattle.shmem_header.specs.Packing.{extended_words, reduced_word}
use Rattle.pcc_steps.specs.Kinds.{is_headed, is_initiator, is_responder, may_acknowledge, IsHeaded, IsRegistered, IsInitiator, IsResponder, IsReduced}
use Rattle.pcc_steps.specs.declared.wiring.Wiring.{Wiring}
use Rattle.pcc_steps.specs.declared.wiring.Style.{Style}
use Rattle.pcc_steps.specs.declared.wiring.Style.TheVariants.{Headed, Joined3, Separate3, Joined4, Separate4, Reduced5}

-- the style by the type, and by whether the update register is the check register
abbrev pub style_by : ℕ → Bool → Style
style_by kind joined =
    if is_headed kind then Headed
    else if is_initiator kind then (if joined then Joined3 else Separate3)
    else if is_responder kind then (if joined then Joined4 else Separate4)
    else Reduced5

abbrev pub style_of : Wiring → Style
style_of w = style_by w.kind w.joined

-- how many words of the block are header words
abbrev pub heads_of : Style → ℕ
heads_of Headed = 0
heads_of Joined3 = 2
heads_of Separate3 = 2
heads_of Joined4 = 2
heads_of Separate4 = 2
heads_of Reduced5 = 1

-- how many words the block has: its header words, and the space in words of 8 bytes
abbrev pub block_of : Wiring → ℕ
block_of w = heads_of (style_of w) + w.room / 8

-- a wiring that a subspace can be opened with
pub record IsRight (w : Wiring) : Type 0 where
  pub kind : w.kind ≤ 5
  -- the room is a multiple of 8 from 8 to 4,096
  pub whole : w.room % 8 ≡ 0
  pub least : 8 ≤ w.room
  pub most : w.room ≤ 4096
  -- errors of types 0 to 2 stand in the header
  pub reports : IsHeaded w.kind → w.reports ≡ true
  -- completion of types 3 to 5 can be seen, and errors too where they are reported
  pub check : IsRegistered w.kind → w.check_mask ≢ 0
  pub error : IsRegistered w.kind → w.reports ≡ true → w.error_mask ≢ 0
  -- only types 3 and 4 have an update register
  pub joined : ¬ IsInitiator w.kind → ¬ IsResponder w.kind → w.joined ≡ false
  -- the asking side of type 3 can clear completion, the answering side of type 4 can set it
  pub clears : IsInitiator w.kind → w.joined ≡ true → bit_and (bit_or w.update.preserve w.update.set) w.check_mask ≡ 0
  pub sets : IsResponder w.kind → w.joined ≡ true → bit_and w.update.set w.check_mask ≢ 0
  -- the header of type 5 has no place to ask for a notification
  pub quiet : IsReduced w.kind → w.notify ≡ false

-- ---- headers

-- the header of a command of types 0 to 2
abbrev pub sent_header : Wiring → ℕ → ℕ → ℕ
sent_header w code status = header_word code w.notify status w.id

-- its status at the end: complete, or complete with an error
abbrev pub status_of : Bool → ℕ
status_of true = 5
status_of false = 1

abbrev pub notify_flag : Bool → ℕ
notify_flag true = 1
notify_flag false = 0

-- the header words of the block of types 3 to 5, for a code and the number of bytes that were asked
abbrev pub block_header : Style → Wiring → ℕ → ℕ → List ℕ
block_header Headed w code asked = []
block_header Reduced5 w code asked = reduced_word (record { signature = signature_of w.id; command = code }) ∷ []
block_header _ w code asked = extended_words (record { signature = signature_of w.id; flags = notify_flag w.notify; length = 4 + asked; command = code })

-- ---- what the words say

-- some bit of the mask is set
abbrev pub meets : ℕ → ℕ → Bool
meets word mask = not (bit_and word mask == 0)

-- word 0 says that the command is complete
abbrev pub is_complete : Style → ℕ → ℕ → Bool
is_complete Headed mask word = is_set word 48
is_complete _ mask word = meets word mask

abbrev pub sees_done : Wiring → ℕ → Bool
sees_done w word = is_complete (style_of w) w.check_mask word

-- a register of its own reports errors
abbrev pub tells_by : Style → Bool → Bool
tells_by Headed reports = false
tells_by _ reports = reports

abbrev pub tells_error : Wiring → Bool
tells_error w = tells_by (style_of w) w.reports

-- the error that word 0 itself reports
abbrev pub header_error : Style → ℕ → Bool
header_error Headed word = is_set word 50
header_error _ word = false

-- the code, by the header of types 0 to 2 and by the block
abbrev pub code_by : Style → ℕ → List ℕ → ℕ
code_by Headed header block = code_in header
code_by Reduced5 header block = command_in (get_or block 0 0)
code_by _ header block = command_in (get_or block 1 0)

-- a notification was asked for
abbrev pub asks_by : Style → ℕ → List ℕ → Bool
asks_by Headed header block = is_set header 47
asks_by Reduced5 header block = false
asks_by _ header block = is_set (get_or block 0 0) 32

-- the asking side of types 2 and 3 acknowledges the interrupt
abbrev pub acknowledges : Wiring → Bool
acknowledges w = if w.has_ack then may_acknowledge w.kind else false

-- the answering side of type 4 acknowledges the doorbell, and rings one
abbrev pub four_by : Style → Bool → Bool
four_by Joined4 has = has
four_by Separate4 has = has
four_by _ has = false

-- ---- what is written

-- the bits that are preserved, with those that are set
abbrev pub masked_by : Masks → ℕ → ℕ
masked_by m found = bit_or (bit_and found m.preserve) m.set

abbrev pub without : ℕ → ℕ → ℕ
without mask found = bit_and found (2 ^ 64 - 1 - mask)

-- the place of the update register: that of completion, where it is the check register
abbrev pub update_place : Style → ℕ
update_place Joined3 = 0
update_place Joined4 = 0
update_place _ = 6

-- ---- the opening content

abbrev pub opening_word : Style → Wiring → ℕ
opening_word Headed w = header_word 0 false 1 w.id
opening_word _ w = w.check_mask

abbrev pub opening_header : Style → Wiring → List ℕ
opening_header Headed w = []
opening_header Reduced5 w = signature_of w.id ∷ []
opening_header _ w = signature_of w.id ∷ 0 ∷ []

-- all words, before the first step; the words of the space are given
abbrev pub opening_words : Wiring → List ℕ → List ℕ
opening_words w space = opening_word (style_of w) w ∷ 0 ∷ 0 ∷ 0 ∷ 0 ∷ 0 ∷ 0 ∷ 0 ∷ opening_header (style_of w) w ++ space
