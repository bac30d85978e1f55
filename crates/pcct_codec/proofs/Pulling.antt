-- A table's bytes are read from a source, each time as many as are wanted at most.
use Rattle.std.proofs.Common.{◌≡◌, ◌⊎◌, inl, inr, ℕ, ◌+◌, ◌-◌, ◌<◌, ◌≤◌, ltb, Bool, true, false, List, [], ◌∷◌, ◌++◌, length, take, drop, refl, sym, ap, ◌∙◌, subst, arith, Result, Ok, Err}
use Rattle.std.specs.Prelude.{Option, Some, IsErrAnd}
use Rattle.std.proofs.lemmas.Bool.{ltb-false}
use Rattle.std.proofs.lemmas.Bool.Decides.{nat_tests}
use Rattle.std.proofs.lemmas.List.{append-nil, length-append, length-take-le, take-append-le}
use Rattle.std.specs.Io.KnownBytes.{Consumes, IsAtEnd, Keeps}
use Rattle.std.proofs.KnownBytes.{Consumes-nil, Consumes-trans, Consumes-kept}
use Rattle.pcc_bytes.specs.Bytes.{IsBytes}
use Rattle.pcct_table.specs.declared.table.Table.{Table}
use Rattle.pcct_codec.specs.declared.fault.TableFault.{TableFault}
use Rattle.pcct_codec.specs.declared.fault.TableFault.TheVariants.{Short, Signature, LengthOutside, Revision, TooMany, Overrun, SubspaceLength, Checksum, ReadFault, NoMemory}
use Rattle.pcct_codec.specs.Tables.{IsTableValue, TableBytes}
use Rattle.pcct_codec.specs.Faults.{AnswerIs, Decision, Undecided, Right, Faulty, FaultIs, ReaderFaultIs, Gone, IsGone, behind_header, decision, table_decision, told_length}
use Rattle.pcct_codec.specs.Pieces.{EndsIn, Kept, PieceIs, WholeIs}
use Rattle.pcct_codec.specs.declared.reader.Piece.{Piece}
use Rattle.pcct_codec.specs.declared.reader.Piece.TheVariants.{More, Whole}
use Rattle.pcct_codec.proofs.Headers.{told_more, told_ok, told_table, header_gone, one_table}
use Rattle.pcct_codec.proofs.Decisions.{behind, reader_fault, table_gone, whole}
use Rattle.pcct_codec.proofs.Fronts.{settled}
use Rattle.pcct_codec.proofs.Cutting.{few_header, few_table, nothing_undecided, rest_of, undecided_ended, undecided_most}
use Rattle.pcct_codec.proofs.Reading.{had, had_all, one_front}

-- ---- the bytes so far decide nothing

pub record Pulled (old new : Option (List ℕ)) (bytes : List ℕ) : Type 0 where
  pub read : Consumes old new bytes
  pub undecided : decision false bytes ≡ Undecided

pub pull_start : (a : Option (List ℕ)) (bytes : List ℕ) → bytes ≡ [] → Pulled a a bytes
pull_start a bytes none = record {
  read = subst (Consumes a a) (sym none) (Consumes-nil a);
  undecided = nothing_undecided bytes none;
}

pub pull_more : (a b c : Option (List ℕ)) (bytes piece new : List ℕ) → Pulled a b bytes → Consumes b c piece → decision false (bytes ++ piece) ≡ Undecided
    → new ≡ bytes ++ piece → Pulled a c new
pull_more a b c bytes piece new p read undecided grown = record {
  read = subst (Consumes a c) (sym grown) (Consumes-trans a b c bytes piece p.read read);
  undecided = ap (decision false) grown ∙ undecided;
}

pub pull_kept : (a b c : Option (List ℕ)) (bytes : List ℕ) → Pulled a b bytes → Keeps b c → Gone ReadFault a c
pull_kept a b c bytes p kept = record { taken = bytes; read = Consumes-kept a b c bytes p.read kept; gone = tt }

-- ---- the source has ended

pub end_exact : (a b c : Option (List ℕ)) (bytes piece all : List ℕ) → Pulled a b bytes → Consumes b c piece → piece ≡ [] → IsAtEnd c → a ≡ Some all
    → decision true all ≡ Faulty (Short (length bytes))
end_exact a b c bytes piece all p read none end e =
    let same : bytes ++ piece ≡ bytes = ap (λ (v : List ℕ). bytes ++ v) none ∙ append-nil bytes in
    let gone : Consumes a c bytes = subst (Consumes a c) same (Consumes-trans a b c bytes piece p.read read) in
    ap (decision true) (had_all a c bytes all gone end e) ∙ undecided_ended bytes p.undecided

-- ---- a piece

-- a read gives the front of a buffer's front
pub piece_read : (b c : Option (List ℕ)) (buf rest : List ℕ) (n : ℕ) → n ≤ length buf → Consumes b c (take n buf) → Consumes b c (take n (buf ++ rest))
piece_read b c buf rest n le read = subst (Consumes b c) (sym (take-append-le n buf rest le)) read

pub piece_few : (buf rest : List ℕ) (n most : ℕ) → n ≤ length buf → n ≤ most → length (take n (buf ++ rest)) ≤ most
piece_few buf rest n most le few = let len : length (take n (buf ++ rest)) ≡ n = length-take-le n (buf ++ rest) (omega (arith, length-append buf rest)) in omega arith

pub answer_from : (r : Result Table TableFault) (f : TableFault) (d : Decision) → IsErrAnd r (λ e. e ≡ f) → ReaderFaultIs f d → AnswerIs r d
answer_from (Ok v) f d h p = absurd h
answer_from (Err e) f d h p = subst (λ (g : TableFault). ReaderFaultIs g d) (sym h) p

-- the bytes so far grow towards the most that can be wanted
pub piece_smaller : (old buf rest new : List ℕ) (n : ℕ) (p : Piece) → p ≡ More → Kept old (take n (buf ++ rest)) (Ok p) new → 0 < n → n ≤ length buf
    → decision false old ≡ Undecided → 65328 - length new < 65328 - length old
piece_smaller old buf rest new n p e kept some le undecided =
    let grown : new ≡ old ++ take n (buf ++ rest) = subst (λ (x : Piece). Kept old (take n (buf ++ rest)) (Ok x) new) e kept in
    let piece : length (take n (buf ++ rest)) ≡ n = length-take-le n (buf ++ rest) (omega (arith, length-append buf rest)) in
    let len : length new ≡ length old + length (take n (buf ++ rest)) = ap length grown ∙ length-append old (take n (buf ++ rest)) in
    let most : length old < 65328 = undecided_most old undecided in
    omega arith

-- ---- a piece decides

-- how many bytes are wanted behind some
pub record Wants (bytes : List ℕ) (n : ℕ) : Type 0 where
  pub header : length bytes < 48 → n + length bytes ≡ 48
  pub table : 48 ≤ length bytes → told_length bytes ≡ Ok (n + length bytes)

-- all bytes of a wrong header, or of a table
abbrev pub IsMet : List ℕ → Type 0
IsMet b = ((f : TableFault) × (told_length b ≡ Err f) × (length b ≡ 48) × (decision false b ≡ Faulty f))
    ⊎ ((told_length b ≡ Ok (length b)) × (decision false b ≡ table_decision b))

met_by : (b : List ℕ) (r : Result ℕ TableFault) → told_length b ≡ r → (decision false b ≡ Undecided → ⊥) → 48 ≤ length b
    → ((f : TableFault) → told_length b ≡ Err f → length b ≡ 48) → ((n : ℕ) → told_length b ≡ Ok n → length b ≤ n) → IsMet b
met_by b (Err f) e decided long wrong right = inl (f, e, wrong f e, behind false b long ∙ ap (behind_header false b) e)
met_by b (Ok n) e decided long wrong right = by_length (ltb (length b) n) refl
  where
    by_length : (t : Bool) → ltb (length b) n ≡ t → IsMet b
    by_length true k = absurd (decided (few_table b n long e (grind (arith, nat_tests))))
    by_length false k =
        let enough : n ≤ length b = ltb-false _ _ k in
        let most : length b ≤ n = right n e in
        let same : n ≡ length b = omega arith in
        let told : told_length b ≡ Ok (length b) = e ∙ ap Ok same in
        inr (told, ap (decision false) (sym (append-nil b)) ∙ whole false b [] told)

met : (bytes piece : List ℕ) (n : ℕ) → Wants bytes n → length piece ≤ n → (decision false (bytes ++ piece) ≡ Undecided → ⊥) → IsMet (bytes ++ piece)
met bytes piece n w within decided = by_header (ltb (length bytes) 48) refl (ltb (length (bytes ++ piece)) 48) refl
  where
    by_header : (p : Bool) → ltb (length bytes) 48 ≡ p → (q : Bool) → ltb (length (bytes ++ piece)) 48 ≡ q → IsMet (bytes ++ piece)
    by_header p e true k = absurd (decided (few_header (bytes ++ piece) (grind (arith, nat_tests))))
    by_header true e false k =
        let long : 48 ≤ length (bytes ++ piece) = ltb-false _ _ k in
        let short : length bytes < 48 = grind (arith, nat_tests) in
        let all : n + length bytes ≡ 48 = w.header short in
        let len : length (bytes ++ piece) ≡ 48 = omega (arith, length-append bytes piece) in
        met_by (bytes ++ piece) (told_length (bytes ++ piece)) refl decided long (λ f t. len) (λ m t. let h = told_ok (bytes ++ piece) m t in let least : 48 ≤ m = h.least in omega arith)
    by_header false e false k =
        let long : 48 ≤ length (bytes ++ piece) = ltb-false _ _ k in
        let told : told_length (bytes ++ piece) ≡ Ok (n + length bytes) = told_more bytes piece (ltb-false _ _ e) ∙ w.table (ltb-false _ _ e) in
        let most : length (bytes ++ piece) ≤ n + length bytes = omega (arith, length-append bytes piece) in
        met_by (bytes ++ piece) (told_length (bytes ++ piece)) refl decided long (λ f t. let no : Ok (n + length bytes) ≡ Err f = sym told ∙ t in absurd cc) (λ m t. let same : n + length bytes ≡ m = cc in omega arith)

-- ---- a piece decides a fault

undecided_only : (f : TableFault) → FaultIs f Undecided → f ≡ NoMemory
undecided_only NoMemory h = refl
undecided_only ReadFault h = absurd cc
undecided_only (Short a) h = absurd cc
undecided_only Signature h = absurd cc
undecided_only (LengthOutside a) h = absurd cc
undecided_only (Revision a) h = absurd cc
undecided_only (TooMany a) h = absurd cc
undecided_only (Overrun a) h = absurd cc
undecided_only (SubspaceLength a k s) h = absurd cc
undecided_only (Checksum a) h = absurd cc

fault_only : (f g : TableFault) → FaultIs f (Faulty g) → (f ≡ NoMemory) ⊎ (g ≡ f)
fault_only NoMemory g h = inl refl
fault_only ReadFault g h = inr cc
fault_only (Short a) g h = inr cc
fault_only Signature g h = inr cc
fault_only (LengthOutside a) g h = inr cc
fault_only (Revision a) g h = inr cc
fault_only (TooMany a) g h = inr cc
fault_only (Overrun a) g h = inr cc
fault_only (SubspaceLength a k s) g h = inr cc
fault_only (Checksum a) g h = inr cc

-- bytes that decide, whatever follows them
fault_stays : (f : TableFault) (b more : List ℕ) (d : Decision) → decision false b ≡ d → FaultIs f d → FaultIs f (decision true (b ++ more))
fault_stays f b more Undecided e h = subst (λ (g : TableFault). FaultIs g (decision true (b ++ more))) (sym (undecided_only f h)) tt
fault_stays f b more Right e h = subst (FaultIs f) (sym (settled true b more (λ u. absurd cc) ∙ e)) h
fault_stays f b more (Faulty g) e h = subst (FaultIs f) (sym (settled true b more (λ u. absurd cc) ∙ e)) h

pub fault_exact : (a b c : Option (List ℕ)) (bytes piece : List ℕ) (f : TableFault) → Pulled a b bytes → Consumes b c piece
    → FaultIs f (decision false (bytes ++ piece)) → (all : List ℕ) → a ≡ Some all → ReaderFaultIs f (decision true all)
fault_exact a b c bytes piece f p read h all e =
    let k = had a c (bytes ++ piece) all (Consumes-trans a b c bytes piece p.read read) e in
    reader_fault f (decision true all) (subst (λ (v : List ℕ). FaultIs f (decision true v)) (sym k.1) (fault_stays f (bytes ++ piece) k.0 (decision false (bytes ++ piece)) refl h))

memory_gone : (f : TableFault) (b : List ℕ) (left : Option (List ℕ)) → f ≡ NoMemory → IsGone f b left
memory_gone f b left e = subst (λ (g : TableFault). IsGone g b left) (sym e) tt

met_gone : (b : List ℕ) (f : TableFault) (left : Option (List ℕ)) → IsMet b → FaultIs f (decision false b) → IsGone f b left
met_gone b f left (inl m) h = elim (fault_only f m.0 (subst (FaultIs f) m.3 h)) [
  | inl e ↦ memory_gone f b left e
  | inr e ↦ header_gone b f left (m.1 ∙ ap Err e) m.2
]
met_gone b f left (inr m) h = table_gone b f left m.0 (subst (FaultIs f) m.1 h)

pub fault_gone : (a b c : Option (List ℕ)) (bytes piece : List ℕ) (n : ℕ) (f : TableFault) → Pulled a b bytes → Consumes b c piece
    → Wants bytes n → length piece ≤ n → FaultIs f (decision false (bytes ++ piece)) → Gone f a c
fault_gone a b c bytes piece n f p read w within h =
    record {
      taken = bytes ++ piece;
      read = Consumes-trans a b c bytes piece p.read read;
      gone = by_decision (decision false (bytes ++ piece)) refl;
    }
  where
    by_decision : (d : Decision) → decision false (bytes ++ piece) ≡ d → IsGone f (bytes ++ piece) c
    by_decision Undecided e = memory_gone f (bytes ++ piece) c (undecided_only f (subst (FaultIs f) e h))
    by_decision Right e = met_gone (bytes ++ piece) f c (met bytes piece n w within (λ u. absurd cc)) h
    by_decision (Faulty g) e = met_gone (bytes ++ piece) f c (met bytes piece n w within (λ u. absurd cc)) h

-- ---- a piece decides a table

-- the table's bytes are all that was read
pub record Found (old new : Option (List ℕ)) (t : Table) : Type 0 where
  pub bytes : List ℕ
  pub fit : IsBytes bytes
  pub spelled : TableBytes bytes t
  pub read : Consumes old new bytes
  pub right : decision false bytes ≡ Right

met_told : (b : List ℕ) → IsMet b → decision false b ≡ Right → told_length b ≡ Ok (length b)
met_told b (inl m) right = let no : Faulty m.0 ≡ Right = sym m.3 ∙ right in absurd cc
met_told b (inr m) right = m.0

no_bytes : (xs : List ℕ) → length xs ≡ 0 → xs ≡ []
no_bytes [] e = refl
no_bytes (x ∷ xs) e = absurd (omega arith)

found : (a b c : Option (List ℕ)) (bytes piece : List ℕ) (n used : ℕ) (t : Table) → Pulled a b bytes → Consumes b c piece → Wants bytes n
    → length piece ≤ n → decision false (bytes ++ piece) ≡ Right → EndsIn bytes piece used t → Found a c t
found a b c bytes piece n used t p read w within right h =
    let front : List ℕ = bytes ++ take used piece in
    let cut : bytes ++ piece ≡ front ++ drop used piece = rest_of bytes piece front used refl in
    let least : 48 ≤ length front = (h.spelled).least in
    let told : told_length (bytes ++ piece) ≡ Ok (length front) = ap told_length cut ∙ told_more front (drop used piece) least ∙ told_table front t h.spelled in
    let all : told_length (bytes ++ piece) ≡ Ok (length (bytes ++ piece)) = met_told (bytes ++ piece) (met bytes piece n w within (λ u. absurd cc)) right in
    let same : length front ≡ length (bytes ++ piece) = cc in
    let len : length (bytes ++ piece) ≡ length front + length (drop used piece) = ap length cut ∙ length-append front (drop used piece) in
    let none : drop used piece ≡ [] = no_bytes (drop used piece) (omega arith) in
    let is : bytes ++ piece ≡ front = cut ∙ ap (λ (v : List ℕ). front ++ v) none ∙ append-nil front in
    record {
      bytes = bytes ++ piece;
      fit = subst IsBytes (sym is) h.fit;
      spelled = subst (λ (v : List ℕ). TableBytes v t) (sym is) h.spelled;
      read = Consumes-trans a b c bytes piece p.read read;
      right = right;
    }

pub found_piece : (a b c : Option (List ℕ)) (bytes buf rest : List ℕ) (n wants used : ℕ) (t : Table) (p : Piece) → Pulled a b bytes
    → n ≤ length buf → Consumes b c (take n buf) → Wants bytes wants → n ≤ wants → p ≡ Whole used t
    → PieceIs (Ok p) (decision false (bytes ++ take n (buf ++ rest))) → WholeIs bytes (take n (buf ++ rest)) p → Found a c t
found_piece a b c bytes buf rest n wants used t p pulled le read w few is answer whole =
    let piece : List ℕ = take n (buf ++ rest) in
    let right : decision false (bytes ++ piece) ≡ Right = subst (λ (x : Piece). PieceIs (Ok x) (decision false (bytes ++ piece))) is answer in
    let ends : EndsIn bytes piece used t = subst (WholeIs bytes piece) is whole in
    found a b c bytes piece wants used t pulled (piece_read b c buf rest n le read) w (piece_few buf rest n wants le few) right ends

pub found_exact : (a c : Option (List ℕ)) (t : Table) → Found a c t → (all : List ℕ) → a ≡ Some all → decision true all ≡ Right
found_exact a c t f all e =
    let k = had a c f.bytes all f.read e in
    let right : decision false f.bytes ≡ Right = f.right in
    ap (decision true) k.1 ∙ settled true f.bytes k.0 (λ u. absurd cc) ∙ right

pub found_only : (a c : Option (List ℕ)) (v : Table) → Found a c v → (b rest : List ℕ) (t : Table) → TableBytes b t → a ≡ Some (b ++ rest) → v ≡ t
found_only a c v f b rest t k e =
    let front = had a c f.bytes (b ++ rest) f.read e in
    let same : f.bytes ≡ b = one_front f.bytes b front.0 rest v t f.spelled k (sym front.1) in
    one_table b v t (subst (λ (x : List ℕ). TableBytes x v) same f.spelled) k

pub found_value : (a c : Option (List ℕ)) (t : Table) → Found a c t → IsTableValue t
found_value a c t f = record { bytes = f.bytes; fit = f.fit; spell = f.spelled }

pub found_bytes : (a c : Option (List ℕ)) (t : Table) → Found a c t → (bytes : List ℕ) × IsBytes bytes × TableBytes bytes t × Consumes a c bytes
found_bytes a c t f = (f.bytes, f.fit, f.spelled, f.read)
