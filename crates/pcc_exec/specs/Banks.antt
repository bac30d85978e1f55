-- A Bank stays a Bank of its room.
use Rattle.std.specs.Prelude.{ℕ, ◌==◌, Bool, true, false, if◌then◌else◌, List, ◌∷◌, drop}
use Rattle.std.proofs.Common.{refl, sym, ◌∙◌, subst, length-drop}
use Rattle.pcc_bytes.specs.Bytes.{IsBytes}
use Rattle.pcc_history.specs.Devices.{bank_exec}
use Rattle.pcc_exec.specs.Execution.{IsSpace, Leaves, IsBank, bank_room}

held_space : (before : List ℕ) → IsBank before → IsSpace (bank_room before) (drop 1 before)
held_space before is = record { long = length-drop 1 before; fits = subst (λ (s : List ℕ). IsBytes (drop 1 s)) (sym is.spelled) is.bytes }

by_code : (b c : Bool) (before space : List ℕ) → IsBank before → IsSpace (bank_room before) space
    → Leaves IsBank bank_room before (if b then record { state = 0 ∷ space; bad = false; space = drop 1 before }
    else if c then record { state = before; bad = false; space = drop 1 before } else record { state = before; bad = true; space = space })
by_code true c before space is fits = record {
  space = held_space before is;
  state = record { held = space; spelled = refl; bytes = fits.fits };
  room = sym (length-drop 1 (0 ∷ space)) ∙ fits.long;
}
by_code false true before space is fits = record { space = held_space before is; state = is; room = refl }
by_code false false before space is fits = record { space = fits; state = is; room = refl }

-- the law of a device, for a Bank
pub bank_keeps : (before : List ℕ) (code : ℕ) (space : List ℕ) → IsBank before → IsSpace (bank_room before) space
    → Leaves IsBank bank_room before (bank_exec before code space)
bank_keeps before code space is fits = by_code (code == 16) (code == 17) before space is fits
