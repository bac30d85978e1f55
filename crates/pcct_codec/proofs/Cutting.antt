-- A table's bytes come in pieces.
use Rattle.std.proofs.Common.{◌≡◌, ◌≢◌, ◌⊎◌, inl, inr, ℕ, ◌+◌, ◌-◌, ◌<◌, ◌≤◌, ltb, cond, Bool, true, false, List, [], ◌∷◌, ◌++◌, length, take, drop, refl, sym, ap, ◌∙◌, subst, arith, Result, Ok, Err}
use Rattle.std.specs.Prelude.{IsErrAnd}
use Rattle.std.specs.List.{concat}
use Rattle.std.proofs.Math.Seq.{take-add}
use Rattle.std.proofs.lemmas.Bool.{lt-ltb, ltb-false}
use Rattle.std.proofs.lemmas.Bool.Decides.{nat_tests}
use Rattle.std.proofs.lemmas.List.{append_assoc, append-nil, length-append, length-drop, take_all, take_at, take-append-drop}
use Rattle.pcc_bytes.specs.Bytes.{IsBytes}
use Rattle.pcct_table.specs.declared.table.Table.{Table}
use Rattle.pcct_codec.specs.declared.fault.TableFault.{TableFault}
use Rattle.pcct_codec.specs.declared.fault.TableFault.TheVariants.{NoMemory, ReadFault, Short}
use Rattle.pcct_codec.specs.declared.reader.Piece.{Piece}
use Rattle.pcct_codec.specs.declared.reader.Piece.TheVariants.{More, Whole}
use Rattle.pcct_codec.specs.Tables.{IsTableValue, TableBytes}
use Rattle.pcct_codec.specs.Faults.{Decision, Undecided, Right, Faulty, FaultIs, behind_header, decision, table_decision, told_length, wanting}
use Rattle.pcct_codec.specs.Pieces.{EndsIn, Grown, IfWhole, Tried, WholeIs, or_else, pieces_decision}
use Rattle.pcct_codec.proofs.Walking.{fault_is}
use Rattle.pcct_codec.proofs.Headers.{told_more, told_ok}
use Rattle.pcct_codec.proofs.Decisions.{behind, short_header, short_table, whole}
use Rattle.pcct_codec.proofs.Fronts.{never_read, settled}
use Rattle.pcct_codec.proofs.Existing.{IsMade, table_made}
use Rattle.pcct_codec.proofs.Reading.{one_front}
use Rattle.pcct_codec.proofs.Headers.{one_table}

-- ---- bytes that decide nothing

pub few_header : (b : List ℕ) → length b < 48 → decision false b ≡ Undecided
unfolding decision
few_header b lt = rw (lt-ltb _ _ lt) refl

pub nothing_undecided : (b : List ℕ) → b ≡ [] → decision false b ≡ Undecided
nothing_undecided b none = ap (decision false) none ∙ few_header [] (omega arith)

pub few_table : (b : List ℕ) (n : ℕ) → 48 ≤ length b → told_length b ≡ Ok n → length b < n → decision false b ≡ Undecided
few_table b n le told lt = behind false b le ∙ rw (told, lt-ltb _ _ lt) refl

made_not : (d : Decision) → IsMade d → d ≡ Undecided → ⊥
made_not d (inl e) h = absurd cc
made_not d (inr e) h = let f : d ≡ Faulty e.0 = e.1 in absurd cc

pub undecided_long : (b : List ℕ) (n : ℕ) → decision false b ≡ Undecided → 48 ≤ length b → told_length b ≡ Ok n → length b < n
undecided_long b n h le told = by_length (ltb (length b) n) refl (sym (behind false b le ∙ ap (behind_header false b) told) ∙ h)
  where
    by_length : (p : Bool) → ltb (length b) n ≡ p → cond p (wanting false b) (table_decision (take n b)) ≡ Undecided → length b < n
    by_length true e k = grind (arith, nat_tests)
    by_length false e k = absurd (made_not (table_decision (take n b)) (table_made (take n b)) k)

pub undecided_right : (b : List ℕ) (f : TableFault) → decision false b ≡ Undecided → 48 ≤ length b → told_length b ≡ Err f → ⊥
undecided_right b f h le told = let k : Faulty f ≡ Undecided = sym (behind false b le ∙ ap (behind_header false b) told) ∙ h in cc

-- they are fewer than a header, or than a right header tells
pub undecided : (b : List ℕ) → decision false b ≡ Undecided
    → (length b < 48) ⊎ ((n : ℕ) × (48 ≤ length b) × (told_length b ≡ Ok n) × (length b < n))
undecided b h = by_header (ltb (length b) 48) refl
  where
    by_told : (r : Result ℕ TableFault) → told_length b ≡ r → 48 ≤ length b → (length b < 48) ⊎ ((n : ℕ) × (48 ≤ length b) × (told_length b ≡ Ok n) × (length b < n))
    by_told (Ok n) e le = inr (n, le, e, undecided_long b n h le e)
    by_told (Err f) e le = absurd (undecided_right b f h le e)

    by_header : (p : Bool) → ltb (length b) 48 ≡ p → (length b < 48) ⊎ ((n : ℕ) × (48 ≤ length b) × (told_length b ≡ Ok n) × (length b < n))
    by_header true e = inl (grind (arith, nat_tests))
    by_header false e = by_told (told_length b) refl (ltb-false _ _ e)

pub undecided_most : (b : List ℕ) → decision false b ≡ Undecided → length b < 65328
undecided_most b h = elim (undecided b h) [
  | inl lt ↦ omega arith
  | inr x ↦ let t = told_ok b x.0 x.2 in let most : x.0 ≤ 65328 = t.most in let lt : length b < x.0 = x.3 in omega arith
]

pub undecided_ended : (b : List ℕ) → decision false b ≡ Undecided → decision true b ≡ Faulty (Short (length b))
undecided_ended b h = elim (undecided b h) [ inl lt ↦ short_header b lt | inr x ↦ short_table b x.0 x.1 x.2 x.3 ]

-- ---- a piece is put behind them

-- what the piece has more
pub rest_of : (old piece new : List ℕ) (u : ℕ) → new ≡ old ++ take u piece → old ++ piece ≡ new ++ drop u piece
rest_of old piece new u e =
    ap (λ (v : List ℕ). old ++ v) (sym (take-append-drop u piece)) ∙ sym (append_assoc old (take u piece) (drop u piece)) ∙ ap (λ (v : List ℕ). v ++ drop u piece) (sym e)

all_of : (old piece new : List ℕ) (u : ℕ) → new ≡ old ++ take u piece → u ≡ length piece → new ≡ old ++ piece
all_of old piece new u e all = e ∙ ap (λ (v : List ℕ). old ++ v) (take_all u piece (omega arith))

front_of : (old piece new : List ℕ) (u : ℕ) → new ≡ old ++ take u piece → take (length old) new ≡ old
front_of old piece new u e = ap (take (length old)) e ∙ take_at old (take u piece) (length old) refl

pub try_from : (old piece new : List ℕ) (r : Result Piece TableFault) (f : TableFault) → IsErrAnd r (λ e. e ≡ f) → Tried old piece (Err f) new → Tried old piece r new
try_from old piece new (Ok v) f h t = absurd h
try_from old piece new (Err e) f h t = subst (λ (g : TableFault). Tried old piece (Err g) new) (sym h) t

pub try_short : (old piece new : List ℕ) (u : ℕ) → Grown old piece 48 u new → length new < 48 → Tried old piece (Ok More) new
try_short old piece new u g lt =
    let e : new ≡ old ++ piece = all_of old piece new u g.grown (g.ended lt) in
    record { answer = ap (decision false) (sym e) ∙ few_header new lt; whole = tt; left = e }

pub try_header : (old piece new : List ℕ) (u : ℕ) (f : TableFault) → Grown old piece 48 u new → 48 ≤ length new → told_length new ≡ Err f
    → Tried old piece (Err f) new
try_header old piece new u f g le told =
    let here : decision false (new ++ drop u piece) ≡ Faulty f =
    behind false (new ++ drop u piece) (omega (arith, length-append new (drop u piece))) ∙ ap (behind_header false (new ++ drop u piece)) (told_more new (drop u piece) le ∙ told) in
    record {
      answer = fault_is f _ (ap (decision false) (rest_of old piece new u g.grown) ∙ here);
      whole = tt;
      left = front_of old piece new u g.grown;
    }

-- the header is there and is right
pub record Reached (old piece : List ℕ) (len used : ℕ) (new : List ℕ) : Type 0 where
  pub within : used ≤ length piece
  pub grown : new ≡ old ++ take used piece
  pub long : 48 ≤ length new
  pub told : told_length new ≡ Ok len
  pub most : length new ≤ len
  pub ended : length new < len → used ≡ length piece

first_most : (old piece mid : List ℕ) (u len : ℕ) → decision false old ≡ Undecided → Grown old piece 48 u mid → 48 ≤ length mid
    → told_length mid ≡ Ok len → length mid ≤ len
first_most old piece mid u len h g le told =
    let t = told_ok mid len told in
    let least : 48 ≤ len = t.least in
    elim g.most [
      | inl z ↦
          let same : mid ≡ old = g.grown ∙ ap (λ (n : ℕ). old ++ take n piece) z ∙ append-nil old in
          let long : 48 ≤ length old = subst (λ (v : List ℕ). 48 ≤ length v) same le in
          let lt : length old < len = undecided_long old len h long (ap told_length (sym same) ∙ told) in
          let n : length mid ≡ length old = ap length same in
          omega arith
      | inr few ↦ omega arith
    ]

second_most : (mid rest new : List ℕ) (v len : ℕ) → Grown mid rest len v new → length mid ≤ len → length new ≤ len
second_most mid rest new v len k le = elim k.most [
  | inl z ↦
      let same : new ≡ mid = k.grown ∙ ap (λ (n : ℕ). mid ++ take n rest) z ∙ append-nil mid in
      subst (λ (x : List ℕ). length x ≤ len) (sym same) le
  | inr few ↦ few
]

pub reached : (old piece mid rest new : List ℕ) (u v len : ℕ) → decision false old ≡ Undecided → Grown old piece 48 u mid → 48 ≤ length mid
    → told_length mid ≡ Ok len → rest ≡ drop u piece → Grown mid rest len v new → Reached old piece len (u + v) new
reached old piece mid rest new u v len h g le told is k =
    let n : length new ≡ length mid + length (take v rest) = ap length k.grown ∙ length-append mid (take v rest) in
    let left : length rest ≡ length piece - u = ap length is ∙ length-drop u piece in
    let first : u ≤ length piece = g.within in
    let second : v ≤ length rest = k.within in
    record {
      within = omega arith;
      grown = k.grown ∙ ap (λ (x : List ℕ). x ++ take v rest) g.grown ∙ append_assoc old (take u piece) (take v rest) ∙ ap (λ (x : List ℕ). old ++ x) (ap (λ (x : List ℕ). take u piece ++ take v x) is ∙ sym (take-add u v piece));
      long = omega arith;
      told = ap told_length k.grown ∙ told_more mid (take v rest) le ∙ told;
      most = second_most mid rest new v len k (first_most old piece mid u len h g le told);
      ended = λ lt. let all : v ≡ length rest = k.ended lt in omega arith;
    }

pub try_table : (old piece new : List ℕ) (len u : ℕ) → Reached old piece len u new → length new < len → Tried old piece (Ok More) new
try_table old piece new len u r lt =
    let e : new ≡ old ++ piece = all_of old piece new u r.grown (r.ended lt) in
    record { answer = ap (decision false) (sym e) ∙ few_table new len r.long r.told lt; whole = tt; left = e }

pub try_memory : (old piece new : List ℕ) (u : ℕ) → new ≡ old ++ take u piece → Tried old piece (Err NoMemory) new
try_memory old piece new u e = record { answer = tt; whole = tt; left = front_of old piece new u e }

pub reached_all : (old piece new : List ℕ) (len u : ℕ) → Reached old piece len u new → len ≤ length new → told_length new ≡ Ok (length new)
reached_all old piece new len u r le = let most : length new ≤ len = r.most in let same : len ≡ length new = omega arith in r.told ∙ ap Ok same

reached_is : (old piece new : List ℕ) (len u : ℕ) → Reached old piece len u new → len ≤ length new → decision false (old ++ piece) ≡ table_decision new
reached_is old piece new len u r le = ap (decision false) (rest_of old piece new u r.grown) ∙ whole false new (drop u piece) (reached_all old piece new len u r le)

pub try_fault : (old piece new : List ℕ) (len u : ℕ) (f : TableFault) → Reached old piece len u new → len ≤ length new → FaultIs f (table_decision new)
    → Tried old piece (Err f) new
try_fault old piece new len u f r le h =
    record {
      answer = subst (FaultIs f) (sym (reached_is old piece new len u r le)) h;
      whole = tt;
      left = front_of old piece new u r.grown;
    }

pub try_whole : (old piece new : List ℕ) (len u : ℕ) (t : Table) → Reached old piece len u new → len ≤ length new → IsBytes new → TableBytes new t
    → table_decision new ≡ Right → Tried old piece (Ok (Whole u t)) new
try_whole old piece new len u t r le fit spelled right =
    record {
      answer = reached_is old piece new len u r le ∙ right;
      whole = record { within = r.within; fit = subst IsBytes r.grown fit; spelled = subst (λ (v : List ℕ). TableBytes v t) r.grown spelled };
      left = r.grown;
    }

pub piece_read : (b : List ℕ) (f : TableFault) → FaultIs f (decision false b) → f ≢ ReadFault
piece_read b f h e =
    let k : decision false b ≡ Faulty ReadFault = subst (λ (g : TableFault). FaultIs g (decision false b)) e h in
    never_read (b ++ []) (settled true b [] (λ u. absurd cc) ∙ k)

pub whole_value : (old piece : List ℕ) (p : Piece) → WholeIs old piece p → IfWhole p IsTableValue
whole_value old piece More h = tt
whole_value old piece (Whole used t) h = record { bytes = old ++ take used piece; fit = h.fit; spell = h.spelled }

-- ---- every cutting

cut_piece : (b p more : List ℕ) (d next : Decision) → decision false (b ++ p) ≡ d → (d ≡ Undecided → next ≡ decision true ((b ++ p) ++ more))
    → or_else d next ≡ decision true ((b ++ p) ++ more)
cut_piece b p more Undecided next e go = go refl
cut_piece b p more Right next e go = sym (settled true (b ++ p) more (λ k. absurd cc) ∙ e)
cut_piece b p more (Faulty f) next e go = sym (settled true (b ++ p) more (λ k. absurd cc) ∙ e)

pub cut_from : (b : List ℕ) (pieces : List (List ℕ)) → decision false b ≡ Undecided → pieces_decision b pieces ≡ decision true (b ++ concat pieces)
cut_from b [] h = sym (ap (decision true) (append-nil b) ∙ undecided_ended b h)
cut_from b (p ∷ ps) h =
    cut_piece b p (concat ps) (decision false (b ++ p)) (pieces_decision (b ++ p) ps) refl (λ k. cut_from (b ++ p) ps k)
    ∙ ap (decision true) (append_assoc b p (concat ps))

pub cut_start : (pieces : List (List ℕ)) → pieces_decision [] pieces ≡ decision true (concat pieces)
cut_start pieces = cut_from [] pieces (few_header [] (omega arith))

pub cut_same : (old piece more front rest : List ℕ) (used : ℕ) (t u : Table) → EndsIn old piece used t → TableBytes front u
    → (old ++ piece) ++ more ≡ front ++ rest → (t ≡ u) × (old ++ take used piece ≡ front)
cut_same old piece more front rest used t u h k e =
    let b : List ℕ = old ++ take used piece in
    let cut : b ++ (drop used piece ++ more) ≡ front ++ rest =
    sym (append_assoc b (drop used piece) more) ∙ ap (λ (v : List ℕ). v ++ more) (sym (rest_of old piece b used refl)) ∙ e in
    let same : b ≡ front = one_front b front (drop used piece ++ more) rest t u h.spelled k cut in
    (one_table front t u (subst (λ (x : List ℕ). TableBytes x t) same h.spelled) k, same)
