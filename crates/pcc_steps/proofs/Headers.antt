-- The header words of a block: how many, what they carry, and what is behind them.
use Rattle.std.proofs.Common.{◌≡◌, ℕ, ◌+◌, ◌*◌, ◌/◌, ◌^◌, ◌<◌, ◌≤◌, List, [], ◌∷◌, ◌++◌, length, take, drop, get_or, refl, ap, arith, length-drop}
use Rattle.std.proofs.lemmas.List.{length-append}
use Rattle.pcc_history.specs.Channel.{Exchange, over}
use Rattle.pcc_history.specs.Histories.{WholeHistory, space_after}
use Rattle.shmem_header.specs.HeaderBits.{command_in}
use Rattle.shmem_header.specs.Layout.{signature_of}
use Rattle.shmem_header.proofs.Commands.{signature_of-add}
use Rattle.shmem_header.specs.Spelling.{words_of}
use Rattle.pcc_steps.specs.declared.wiring.Wiring.{Wiring}
use Rattle.pcc_steps.specs.declared.wiring.Style.{Style}
use Rattle.pcc_steps.specs.declared.wiring.Style.TheVariants.{Headed, Joined3, Separate3, Joined4, Separate4, Reduced5}
use Rattle.pcc_steps.specs.Wires.{style_of, heads_of, block_header}
use Rattle.pcc_steps.specs.Agree.{header_after}
use Rattle.pcc_steps.proofs.Spaces.{words_long}

-- the header words of the block carry the code (types 3 to 5)
abbrev pub Carries : Style → ℕ → List ℕ → Type 0
Carries Headed code block = Unit {0}
Carries Reduced5 code block = command_in (get_or block 0 0) ≡ code
Carries _ code block = command_in (get_or block 1 0) ≡ code

heads_long : (s : Style) (w : Wiring) (code asked : ℕ) → length (block_header s w code asked) ≡ heads_of s
heads_long Headed w code asked = refl
heads_long Joined3 w code asked = refl
heads_long Separate3 w code asked = refl
heads_long Joined4 w code asked = refl
heads_long Separate4 w code asked = refl
heads_long Reduced5 w code asked = refl

pub over_long : (space bytes : List ℕ) (room : ℕ) → length space ≡ room → length bytes ≤ room → length (over space bytes) ≡ room
over_long space bytes room e h = let l = length-append bytes (drop (length bytes) space) in let d = length-drop (length bytes) space in omega (arith, l, d)

-- bytes that are laid over a space and leave it as long are no longer
pub asked_short : (space bytes : List ℕ) (room : ℕ) → length space ≡ room → length (over space bytes) ≡ room → length bytes ≤ room
asked_short space bytes room e h = let l = length-append bytes (drop (length bytes) space) in omega (arith, l)

pub block_sent : (s : Style) (w : Wiring) (code asked room : ℕ) (input : List ℕ) → length input ≡ room
    → length (block_header s w code asked ++ words_of input) ≡ heads_of s + room / 8
block_sent s w code asked room input e = let l = length-append (block_header s w code asked) (words_of input) in let h = heads_long s w code asked in let k = words_long input in let q = ap (λ (n : ℕ). n / 8) e in omega (arith, l, h, k, q)

pub behind_header : (s : Style) (w : Wiring) (code asked : ℕ) (ws : List ℕ) → drop (heads_of s) (block_header s w code asked ++ ws) ≡ ws
behind_header Headed w code asked ws = refl
behind_header Joined3 w code asked ws = refl
behind_header Separate3 w code asked ws = refl
behind_header Joined4 w code asked ws = refl
behind_header Separate4 w code asked ws = refl
behind_header Reduced5 w code asked ws = refl

pub front_header : (s : Style) (w : Wiring) (code asked : ℕ) (ws : List ℕ) → take (heads_of s) (block_header s w code asked ++ ws) ≡ block_header s w code asked
front_header Headed w code asked ws = refl
front_header Joined3 w code asked ws = refl
front_header Separate3 w code asked ws = refl
front_header Joined4 w code asked ws = refl
front_header Separate4 w code asked ws = refl
front_header Reduced5 w code asked ws = refl

upper_half : (low code : ℕ) → low < 2 ^ 32 → (low + code * 2 ^ 32) / 2 ^ 32 ≡ code
upper_half low code h = omega arith

pub signed : (id : ℕ) → id < 2 ^ 8 → signature_of id < 2 ^ 32
signed id h = let e = signature_of-add id h in omega arith

pub carried : (s : Style) (w : Wiring) (code asked : ℕ) (ws : List ℕ) → w.id < 2 ^ 8 → asked ≤ 4096 → Carries s code (block_header s w code asked ++ ws)
carried Headed w code asked ws id small = tt
carried Joined3 w code asked ws id small = upper_half (4 + asked) code (omega arith)
carried Separate3 w code asked ws id small = upper_half (4 + asked) code (omega arith)
carried Joined4 w code asked ws id small = upper_half (4 + asked) code (omega arith)
carried Separate4 w code asked ws id small = upper_half (4 + asked) code (omega arith)
carried Reduced5 w code asked ws id small = upper_half (signature_of w.id) code (signed w.id id)

-- the header words after a history that has one command more
pub header_last : (w : Wiring) (header opening : List ℕ) (h : List Exchange) (asked : List (List ℕ)) (e : Exchange) (bytes : List ℕ)
    → WholeHistory opening h asked → header_after w header (h ++ e ∷ []) (asked ++ bytes ∷ []) ≡ block_header (style_of w) w e.code (length bytes)
header_last w header opening [] [] e bytes i = refl
header_last w header opening [] (b ∷ asked) e bytes i = absurd i
header_last w header opening (c ∷ h) [] e bytes i = absurd i
header_last w header opening (c ∷ h) (b ∷ asked) e bytes i = header_last w (block_header (style_of w) w c.code (length b)) c.output h asked e bytes i.1

pub whole_more : (opening : List ℕ) (h : List Exchange) (asked : List (List ℕ)) (e : Exchange) (bytes : List ℕ) → WholeHistory opening h asked
    → e.input ≡ over (space_after opening h) bytes → WholeHistory opening (h ++ e ∷ []) (asked ++ bytes ∷ [])
whole_more opening [] [] e bytes w i = (i, tt)
whole_more opening [] (b ∷ asked) e bytes w i = absurd w
whole_more opening (c ∷ h) [] e bytes w i = absurd w
whole_more opening (c ∷ h) (b ∷ asked) e bytes w i = (w.0, whole_more c.output h asked e bytes w.1 i)

pub space_last : (opening : List ℕ) (h : List Exchange) (e : Exchange) → space_after opening (h ++ e ∷ []) ≡ e.output
space_last opening [] e = refl
space_last opening (c ∷ h) e = space_last c.output h e
