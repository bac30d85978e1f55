-- Why bytes are refused, and pieces of texts.
use Rattle.std.proofs.Common.{◌≡◌, ◌≢◌, ℕ, ◌+◌, ◌<◌, ◌≤◌, true, List, [], ◌++◌, length, take, drop, refl, sym, ap, ◌∙◌, subst, append_assoc, arith, Result, Ok, Err}
use Rattle.std.specs.Prelude.{OnOk}
use Rattle.std.proofs.lemmas.List.{append-nil, length-append, length-drop, length-take, take-append-drop}
use Rattle.pcct_table.specs.declared.table.Table.{Table}
use Rattle.pcct_codec.specs.declared.fault.TableFault.{TableFault}
use Rattle.pcct_codec.specs.declared.fault.TableFault.TheVariants.{Short, Signature, LengthOutside, Revision, TooMany, Overrun, SubspaceLength, Checksum, ReadFault, NoMemory}
use Rattle.pcct_codec.specs.Faults.{FaultIs, Right, decision, told_length}
use Rattle.pcct_codec.specs.Tables.{TableBytes}
use Rattle.pcct_codec.proofs.Decisions.{right_source}
use Rattle.pcct_codec.proofs.Headers.{told_more, told_table}
use Rattle.pcc_setup.specs.declared.refusal.Refusal.{Refusal}
use Rattle.pcc_setup.specs.declared.refusal.Refusal.TheVariants as refusal
use Rattle.pcc_setup.specs.RefusalText.{IsOfBytes}
use Rattle.pcc_setup.specs.SetUps.{Followed, TableRefused, Wrong}

-- bytes that were put after others
pub put_after : {E T : Type 0} (r : Result T E) (old mid new front back : List ℕ) → mid ≡ old ++ front → OnOk r (new ≡ mid ++ back) → OnOk r (new ≡ old ++ (front ++ back))
put_after {E = E} {T = T} (Ok v) old mid new front back e h = h ∙ ap (λ (v : List ℕ). v ++ back) e ∙ append_assoc old front back
put_after {E = E} {T = T} (Err x) old mid new front back e h = h

pub three_before : (a b c back : List ℕ) → (a ++ (b ++ (c ++ []))) ++ back ≡ a ++ (b ++ (c ++ back))
three_before a b c back = simp (append_assoc, append-nil)

-- ---- tables

-- bytes follow a table
pub followed : (bytes : List ℕ) (len : ℕ) (t : Table) → TableBytes (take len bytes) t → len < length bytes → TableRefused bytes (refusal.Trailing len)
followed bytes len t h lt =
    let n : length (take len bytes) ≡ len = omega (arith, length-take len bytes) in
    let some : 1 ≤ length (drop len bytes) = omega (arith, length-drop len bytes) in
    let P : ℕ → Type 0 = λ k. TableRefused bytes (refusal.Trailing k) in
    subst P n (Followed (take len bytes) (drop len bytes) t h (sym (take-append-drop len bytes)) some)

-- a fault of bytes
pub wrong : (bytes : List ℕ) (fault : TableFault) → FaultIs fault (decision true bytes) → fault ≢ NoMemory → fault ≢ ReadFault → TableRefused bytes (refusal.Table fault) × IsOfBytes fault
wrong bytes (Short at) h a b = (Wrong (Short at) h, tt)
wrong bytes Signature h a b = (Wrong Signature h, tt)
wrong bytes (LengthOutside len) h a b = (Wrong (LengthOutside len) h, tt)
wrong bytes (Revision found) h a b = (Wrong (Revision found) h, tt)
wrong bytes (TooMany at) h a b = (Wrong (TooMany at) h, tt)
wrong bytes (Overrun at) h a b = (Wrong (Overrun at) h, tt)
wrong bytes (SubspaceLength at kind found) h a b = (Wrong (SubspaceLength at kind found) h, tt)
wrong bytes (Checksum sum) h a b = (Wrong (Checksum sum) h, tt)
wrong bytes ReadFault h a b = absurd (b refl)
wrong bytes NoMemory h a b = absurd (a refl)

ok_is : (r : Result ℕ TableFault) (x y : ℕ) → r ≡ Ok x → r ≡ Ok y → x ≡ y
ok_is r x y e f = cc

-- the bytes of a table are not refused
pub table_kept : (bytes : List ℕ) (t : Table) (r : Refusal) → TableBytes bytes t → TableRefused bytes r → ⊥
table_kept bytes t r h (Wrong fault e) =
    let right : decision true bytes ≡ Right = ap (decision true) (sym (append-nil bytes)) ∙ right_source true bytes [] t h in
    cc
table_kept bytes t r h (Followed front rest u k e some) =
    let least : 48 ≤ length front = k.least in
    let told : told_length bytes ≡ Ok (length front) = ap told_length e ∙ told_more front rest least ∙ told_table front u k in
    let n : length bytes ≡ length front = ok_is (told_length bytes) (length bytes) (length front) (told_table bytes t h) told in
    let m : length bytes ≡ length front + length rest = ap length e ∙ length-append front rest in
    absurd (omega arith)
