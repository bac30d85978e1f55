-- The commands over all entries and all processors.
use Rattle.std.proofs.Common.{◌≡◌, ℕ, zero, suc, ◌+◌, ◌<◌, ◌≤◌, List, [], ◌∷◌, ◌++◌, length, get_or, take, Option, Some, refl, sym, ap, ◌∙◌, subst, arith}
use Rattle.std.specs.Prelude.{bit_or, flat_map}
use Rattle.std.proofs.lemmas.List.{append_assoc, append-nil, take_all, take_more}
use Rattle.std.proofs.lemmas.List.Concat.{flat_map-append}
use Rattle.pcc_bytes.specs.Bytes.{IsBytes}
use Rattle.pcc_gas.specs.Changes.{AreApartFrom, IsApartFrom, with_changes}
use Rattle.pcc_gas.specs.declared.change.Change.{Change}
use Rattle.pcc_gas.specs.declared.field.Field.{Field}
use Rattle.pcc_gas.proofs.Changes.{changes-apart, changes-length, changes-more, changes-none}
use Rattle.cpc_package.specs.Bindings.{AreProcessors, IsRight, ShareBit, number_in, source_at}
use Rattle.cpc_package.specs.declared.binding.Binding.{Binding}
use Rattle.cpc_package.specs.declared.binding.Source1.{Source1}
use Rattle.cpc_package.specs.declared.binding.Source1.TheVariants.{Missing, Number, At}
use Rattle.cppc_device.specs.Devices.{capped, entry_number, excursions, field_in, put_into, reference_of, sampled_of, taken_from, written_entries, written_of}
use Rattle.cppc_device.proofs.Apart.{AllOf, all_of-append, all_of-wider, apart-append, apart_cpus, apart_entries, put_by, taken_by}

-- ---- a source that is no field

pub put_none : (source : Source1) (number : ℕ) (space : List ℕ) → IsBytes space → ((field : Field) → source ≡ At field → ⊥)
    → space ≡ with_changes (put_into source number) space
put_none Missing number space all none = sym (changes-none space all)
put_none (Number value) number space all none = sym (changes-none space all)
put_none (At field) number space all none = absurd (none field refl)

pub take_none : (source : Source1) (other space : List ℕ) → IsBytes space → ((field : Field) → source ≡ At field → ⊥)
    → space ≡ with_changes (taken_from other source) space
take_none Missing other space all none = sym (changes-none space all)
take_none (Number value) other space all none = sym (changes-none space all)
take_none (At field) other space all none = absurd (none field refl)

-- ---- changes one after the other

pub after_both : (first later : List Change) (old between new : List ℕ) → AreApartFrom first later → between ≡ with_changes first old
    → new ≡ with_changes later between → new ≡ with_changes (first ++ later) old
after_both first later old between new apart p q = q ∙ ap (with_changes later) p ∙ changes-more first later old apart

-- ---- one processor

put_of : (cpu : Binding) (n number : ℕ) → AllOf cpu n (n + 1) (put_into (source_at cpu n) number)
put_of cpu n number = put_by cpu n number (source_at cpu n) refl

three_puts : (cpu : Binding) (old a b new : List ℕ) (x y z : ℕ) → IsRight cpu
    → a ≡ with_changes (put_into (source_at cpu 13) x) old → b ≡ with_changes (put_into (source_at cpu 14) y) a
    → new ≡ with_changes (put_into (source_at cpu 15) z) b
    → new ≡ with_changes (put_into (source_at cpu 13) x ++ (put_into (source_at cpu 14) y ++ put_into (source_at cpu 15) z)) old
three_puts cpu old a b new x y z right p q r =
    let one : List Change = put_into (source_at cpu 13) x in
    let two : List Change = put_into (source_at cpu 14) y in
    let three : List Change = put_into (source_at cpu 15) z in
    let front : AllOf cpu 13 15 (one ++ two) =
    all_of-append cpu 13 15 one two (all_of-wider cpu 13 14 13 15 one (omega arith) (omega arith) (put_of cpu 13 x))
    (all_of-wider cpu 14 15 13 15 two (omega arith) (omega arith) (put_of cpu 14 y)) in
    after_both (one ++ two) three old b new (apart_entries cpu 13 15 16 (one ++ two) three right front (put_of cpu 15 z))
    (after_both one two old a b (apart_entries cpu 13 14 15 one two right (put_of cpu 13 x) (put_of cpu 14 y)) p q) r
    ∙ ap (λ (changes : List Change). with_changes changes old) (append_assoc one two three)

pub sampled_by : (cap : Option ℕ) (cpu : Binding) (old a b new : List ℕ) (x y z : ℕ) → IsRight cpu
    → a ≡ with_changes (put_into (source_at cpu 13) x) old → b ≡ with_changes (put_into (source_at cpu 14) y) a
    → new ≡ with_changes (put_into (source_at cpu 15) z) b
    → x ≡ entry_number cpu 13 old + reference_of cpu old
    → y ≡ entry_number cpu 14 old + capped cap (entry_number cpu 7 old)
    → z ≡ bit_or (entry_number cpu 15 old) (excursions cap (number_in (source_at cpu 7) old) (field_in (source_at cpu 8) old))
    → new ≡ with_changes (sampled_of cap old cpu) old
sampled_by cap cpu old a b new x y z right p q r is_x is_y is_z =
    three_puts cpu old a b new x y z right p q r
    ∙ ap (λ (n : ℕ). with_changes (put_into (source_at cpu 13) n ++ (put_into (source_at cpu 14) y ++ put_into (source_at cpu 15) z)) old) is_x
    ∙ ap (λ (n : ℕ). with_changes (put_into (source_at cpu 13) (entry_number cpu 13 old + reference_of cpu old)
    ++ (put_into (source_at cpu 14) n ++ put_into (source_at cpu 15) z)) old) is_y
    ∙ ap (λ (n : ℕ). with_changes (put_into (source_at cpu 13) (entry_number cpu 13 old + reference_of cpu old)
    ++ (put_into (source_at cpu 14) (entry_number cpu 14 old + capped cap (entry_number cpu 7 old)) ++ put_into (source_at cpu 15) n)) old) is_z

sampled_all_of : (cap : Option ℕ) (registers : List ℕ) (cpu : Binding) → AllOf cpu 0 23 (sampled_of cap registers cpu)
sampled_all_of cap registers cpu =
    all_of-append cpu 0 23 (put_into (source_at cpu 13) _) _ (all_of-wider cpu 13 14 0 23 (put_into (source_at cpu 13) _) (omega arith) (omega arith) (put_of cpu 13 _))
    (all_of-append cpu 0 23 (put_into (source_at cpu 14) _) _ (all_of-wider cpu 14 15 0 23 (put_into (source_at cpu 14) _) (omega arith) (omega arith) (put_of cpu 14 _))
    (all_of-wider cpu 15 16 0 23 (put_into (source_at cpu 15) _) (omega arith) (omega arith) (put_of cpu 15 _)))

-- ---- the entries that are written

rising : (i : ℕ) → suc i < 10 → get_or written_entries i 0 < get_or written_entries (suc i) 0
rising zero h = omega arith
rising (suc zero) h = omega arith
rising (suc (suc zero)) h = omega arith
rising (suc (suc (suc zero))) h = omega arith
rising (suc (suc (suc (suc zero)))) h = omega arith
rising (suc (suc (suc (suc (suc zero))))) h = omega arith
rising (suc (suc (suc (suc (suc (suc zero)))))) h = omega arith
rising (suc (suc (suc (suc (suc (suc (suc zero))))))) h = omega arith
rising (suc (suc (suc (suc (suc (suc (suc (suc zero)))))))) h = omega arith
rising (suc (suc (suc (suc (suc (suc (suc (suc (suc i))))))))) h = absurd (omega arith)

abbrev pub entry_taken : List ℕ → Binding → ℕ → List Change
entry_taken space cpu n = taken_from space (source_at cpu n)

pub front_more : {A B : Type 0} (f : A → List B) (xs : List A) (i : ℕ) (d x : A) → i < length xs → get_or xs i d ≡ x
    → flat_map f (take (i + 1) xs) ≡ flat_map f (take i xs) ++ f x
front_more {A = A} {B = B} f xs i d x lt is =
    ap (flat_map f) (take_more xs i d lt ∙ ap (λ (y : A). take i xs ++ y ∷ []) is)
    ∙ flat_map-append f (take i xs) (x ∷ []) ∙ ap (λ (ys : List B). flat_map f (take i xs) ++ ys) (append-nil (f x))

below_entry : (space : List ℕ) (cpu : Binding) (i : ℕ) → i < 10 → AllOf cpu 0 (get_or written_entries i 0) (flat_map (entry_taken space cpu) (take i written_entries))
below_entry space cpu zero lt = tt
below_entry space cpu (suc i) lt =
    let n : ℕ = get_or written_entries i 0 in
    let before : AllOf cpu 0 n (flat_map (entry_taken space cpu) (take i written_entries)) = below_entry space cpu i (omega arith) in
    let up : n < get_or written_entries (suc i) 0 = rising i lt in
    let e : flat_map (entry_taken space cpu) (take (i + 1) written_entries) ≡ flat_map (entry_taken space cpu) (take i written_entries) ++ entry_taken space cpu n =
    front_more (entry_taken space cpu) written_entries i 0 n (omega arith) refl in
    let one : i + 1 ≡ suc i = omega arith in
    subst (λ (k : ℕ). AllOf cpu 0 (get_or written_entries (suc i) 0) (flat_map (entry_taken space cpu) (take k written_entries))) one
    (subst (AllOf cpu 0 (get_or written_entries (suc i) 0)) (sym e)
    (all_of-append cpu 0 (get_or written_entries (suc i) 0) (flat_map (entry_taken space cpu) (take i written_entries)) (entry_taken space cpu n)
    (all_of-wider cpu 0 n 0 (get_or written_entries (suc i) 0) (flat_map (entry_taken space cpu) (take i written_entries)) (omega arith) (omega arith) before)
    (all_of-wider cpu n (n + 1) 0 (get_or written_entries (suc i) 0) (entry_taken space cpu n) (omega arith) (omega arith)
    (taken_by cpu n space (source_at cpu n) refl))))

-- the entries before place i are taken
pub record Taken (cpu : Binding) (space old : List ℕ) (i : ℕ) (registers : List ℕ) : Type 0 where
  pub so_far : registers ≡ with_changes (flat_map (entry_taken space cpu) (take i written_entries)) old
  pub len : length registers ≡ length old

pub taken_start : (cpu : Binding) (space old : List ℕ) → IsBytes old → Taken cpu space old 0 old
taken_start cpu space old all = record { so_far = sym (changes-none old all); len = refl }

pub taken_more : (cpu : Binding) (space old registers next : List ℕ) (i n : ℕ) → IsRight cpu → i < 10 → get_or written_entries i 0 ≡ n
    → next ≡ with_changes (taken_from space (source_at cpu n)) registers → Taken cpu space old i registers → Taken cpu space old (i + 1) next
taken_more cpu space old registers next i n right lt is new before =
    let front : List Change = flat_map (entry_taken space cpu) (take i written_entries) in
    let of_front : AllOf cpu 0 n front = subst (λ (k : ℕ). AllOf cpu 0 k front) is (below_entry space cpu i lt) in
    record {
      so_far =
          after_both front (entry_taken space cpu n) old registers next
          (apart_entries cpu 0 n (n + 1) front (entry_taken space cpu n) right of_front (taken_by cpu n space (source_at cpu n) refl)) before.so_far new
          ∙ ap (λ (changes : List Change). with_changes changes old) (sym (front_more (entry_taken space cpu) written_entries i 0 n (omega arith) is));
      len = ap length new ∙ changes-length (taken_from space (source_at cpu n)) registers ∙ before.len;
    }

pub taken_end : (cpu : Binding) (space old registers : List ℕ) (i : ℕ) → 10 ≤ i → Taken cpu space old i registers
    → registers ≡ with_changes (written_of space cpu) old
taken_end cpu space old registers i past all =
    all.so_far ∙ ap (λ (ns : List ℕ). with_changes (flat_map (entry_taken space cpu) ns) old) (take_all i written_entries past)

taken_in : (space : List ℕ) (cpu : Binding) (ns : List ℕ) → AllOf cpu 0 23 (flat_map (entry_taken space cpu) ns) → (n : ℕ) → n < 23
    → AllOf cpu 0 23 (flat_map (entry_taken space cpu) (n ∷ ns))
taken_in space cpu ns rest n lt =
    all_of-append cpu 0 23 (entry_taken space cpu n) (flat_map (entry_taken space cpu) ns)
    (all_of-wider cpu n (n + 1) 0 23 (entry_taken space cpu n) (omega arith) (omega arith) (taken_by cpu n space (source_at cpu n) refl)) rest

written_all_of : (space : List ℕ) (cpu : Binding) → AllOf cpu 0 23 (written_of space cpu)
written_all_of space cpu =
    taken_in space cpu (8 ∷ 9 ∷ 10 ∷ 11 ∷ 15 ∷ 16 ∷ 17 ∷ 18 ∷ 19 ∷ []) (
    taken_in space cpu (9 ∷ 10 ∷ 11 ∷ 15 ∷ 16 ∷ 17 ∷ 18 ∷ 19 ∷ []) (
    taken_in space cpu (10 ∷ 11 ∷ 15 ∷ 16 ∷ 17 ∷ 18 ∷ 19 ∷ []) (
    taken_in space cpu (11 ∷ 15 ∷ 16 ∷ 17 ∷ 18 ∷ 19 ∷ []) (
    taken_in space cpu (15 ∷ 16 ∷ 17 ∷ 18 ∷ 19 ∷ []) (
    taken_in space cpu (16 ∷ 17 ∷ 18 ∷ 19 ∷ []) (
    taken_in space cpu (17 ∷ 18 ∷ 19 ∷ []) (
    taken_in space cpu (18 ∷ 19 ∷ []) (
    taken_in space cpu (19 ∷ []) (
    taken_in space cpu [] tt 19 (omega arith)
    ) 18 (omega arith)) 17 (omega arith)) 16 (omega arith)) 15 (omega arith)) 11 (omega arith)) 10 (omega arith)) 9 (omega arith)) 8 (omega arith)) 7 (omega arith)

-- ---- all processors

-- a rule of changes, of the processor's entries alone
abbrev pub IsRule : (Binding → List Change) → Type 0
IsRule rule = (cpu : Binding) → AllOf cpu 0 23 (rule cpu)

no_bit : (len : ℕ) (cpus : List Binding) → AreProcessors len cpus → (i j : ℕ) (d : Binding) → i < j → j < length cpus
    → ShareBit (get_or cpus i d) (get_or cpus j d) → ⊥
no_bit len cpus processors i j d lt within = processors.apart i j d lt within

none_apart : (later : List Change) → AreApartFrom [] later
none_apart [] = tt
none_apart (c ∷ cs) = (tt, none_apart cs)

-- the changes of the processors before number i are apart from those of number i
earlier_apart : (len : ℕ) (cpus : List Binding) (rule other : Binding → List Change) (d cpu : Binding) (i k : ℕ) → AreProcessors len cpus
    → IsRule rule → IsRule other → i < length cpus → get_or cpus i d ≡ cpu → k ≤ i → AreApartFrom (flat_map rule (take k cpus)) (other cpu)
earlier_apart len cpus rule other d cpu i zero processors is_rule is_other lt is le = none_apart (other cpu)
earlier_apart len cpus rule other d cpu i (suc k) processors is_rule is_other lt is le =
    let before : Binding = get_or cpus k d in
    let one : k + 1 ≡ suc k = omega arith in
    let e : flat_map rule (take (k + 1) cpus) ≡ flat_map rule (take k cpus) ++ rule before = front_more rule cpus k d before (omega arith) refl in
    let same : before.subspace ≡ cpu.subspace = processors.subspace k i d (omega arith) lt ∙ ap (λ (b : Binding). b.subspace) is in
    let none : ShareBit before cpu → ⊥ = subst (λ (b : Binding). ShareBit before b → ⊥) is (no_bit len cpus processors k i d (omega arith) lt) in
    subst (λ (j : ℕ). AreApartFrom (flat_map rule (take j cpus)) (other cpu)) one
    (subst (λ (changes : List Change). AreApartFrom changes (other cpu)) (sym e)
    (apart-append (flat_map rule (take k cpus)) (rule before) (other cpu)
    (earlier_apart len cpus rule other d cpu i k processors is_rule is_other lt is (omega arith))
    (apart_cpus before cpu 0 23 0 23 (rule before) (other cpu) same none (is_rule before) (is_other cpu))))

-- the processors before number i have changed
pub record Changed (rule : Binding → List Change) (cpus : List Binding) (old : List ℕ) (i : ℕ) (registers : List ℕ) : Type 0 where
  pub so_far : registers ≡ with_changes (flat_map rule (take i cpus)) old
  pub len : length registers ≡ length old

pub changed_start : (rule : Binding → List Change) (cpus : List Binding) (old : List ℕ) → IsBytes old → Changed rule cpus old 0 old
changed_start rule cpus old all = record { so_far = sym (changes-none old all); len = refl }

changed_more : (rule : Binding → List Change) (len : ℕ) (cpus : List Binding) (old registers next : List ℕ) (d cpu : Binding) (i : ℕ) → AreProcessors len cpus
    → IsRule rule → i < length cpus → get_or cpus i d ≡ cpu → next ≡ with_changes (rule cpu) registers → Changed rule cpus old i registers
    → Changed rule cpus old (i + 1) next
changed_more rule len cpus old registers next d cpu i processors is_rule lt is new before = record {
  so_far =
      after_both (flat_map rule (take i cpus)) (rule cpu) old registers next
      (earlier_apart len cpus rule rule d cpu i i processors is_rule is_rule lt is (omega arith)) before.so_far new
      ∙ ap (λ (changes : List Change). with_changes changes old) (sym (front_more rule cpus i d cpu lt is));
  len = ap length new ∙ changes-length (rule cpu) registers ∙ before.len;
}

pub changed_end : (rule : Binding → List Change) (cpus : List Binding) (old registers : List ℕ) (i : ℕ) → length cpus ≤ i → Changed rule cpus old i registers
    → registers ≡ with_changes (flat_map rule cpus) old
changed_end rule cpus old registers i past all = all.so_far ∙ ap (λ (xs : List Binding). with_changes (flat_map rule xs) old) (take_all i cpus past)

pub written_more : (space : List ℕ) (len : ℕ) (cpus : List Binding) (old registers next : List ℕ) (d cpu : Binding) (i : ℕ) → AreProcessors len cpus
    → i < length cpus → get_or cpus i d ≡ cpu → next ≡ with_changes (written_of space cpu) registers → Changed (written_of space) cpus old i registers
    → Changed (written_of space) cpus old (i + 1) next
written_more space len cpus old registers next d cpu i processors lt is new before =
    changed_more (written_of space) len cpus old registers next d cpu i processors (written_all_of space) lt is new before

-- ---- what is read of a processor's fields doesn't change with the others

pub same_number : (changes : List Change) (old : List ℕ) (s : Source1) → ((field : Field) → s ≡ At field → IsApartFrom field changes)
    → number_in s (with_changes changes old) ≡ number_in s old
same_number changes old Missing apart = refl
same_number changes old (Number value) apart = refl
same_number changes old (At field) apart = ap (λ (n : ℕ). Some n) (changes-apart changes old field (apart field refl))

pub same_in : (changes : List Change) (old : List ℕ) (s : Source1) → ((field : Field) → s ≡ At field → IsApartFrom field changes)
    → field_in s (with_changes changes old) ≡ field_in s old
same_in changes old Missing apart = refl
same_in changes old (Number value) apart = refl
same_in changes old (At field) apart = ap (λ (n : ℕ). Some n) (changes-apart changes old field (apart field refl))

same_samples : (cap : Option ℕ) (cpu : Binding) (a b : List ℕ) → ((n : ℕ) → n < 23 → number_in (source_at cpu n) a ≡ number_in (source_at cpu n) b)
    → field_in (source_at cpu 8) a ≡ field_in (source_at cpu 8) b → sampled_of cap a cpu ≡ sampled_of cap b cpu
same_samples cap cpu a b numbers minimum =
    rw (
      numbers 13 (omega arith),
      numbers 20 (omega arith),
      numbers 3 (omega arith),
      numbers 14 (omega arith),
      numbers 7 (omega arith),
      numbers 15 (omega arith),
      minimum,
    ) refl

one_put : (n : ℕ) → n < 23 → IsRule (λ cpu. put_into (source_at cpu n) 0)
one_put n lt cpu = all_of-wider cpu n (n + 1) 0 23 (put_into (source_at cpu n) 0) (omega arith) (omega arith) (put_of cpu n 0)

-- the fields of processor number i are apart from the changes of those before it
field_apart : (len : ℕ) (cpus : List Binding) (rule : Binding → List Change) (d cpu : Binding) (i : ℕ) → AreProcessors len cpus → IsRule rule
    → i < length cpus → get_or cpus i d ≡ cpu → (n : ℕ) (field : Field) → n < 23 → source_at cpu n ≡ At field → IsApartFrom field (flat_map rule (take i cpus))
field_apart len cpus rule d cpu i processors is_rule lt is n field small at =
    let apart : AreApartFrom (flat_map rule (take i cpus)) (put_into (source_at cpu n) 0) =
    earlier_apart len cpus rule (λ b. put_into (source_at b n) 0) d cpu i i processors is_rule (one_put n small) lt is (omega arith) in
    let own : AreApartFrom (flat_map rule (take i cpus)) (put_into (At field) 0) =
    subst (λ (s : Source1). AreApartFrom (flat_map rule (take i cpus)) (put_into s 0)) at apart in
    own.0

pub sampled_more : (cap : Option ℕ) (len : ℕ) (cpus : List Binding) (old registers next : List ℕ) (d cpu : Binding) (i : ℕ) → AreProcessors len cpus
    → i < length cpus → get_or cpus i d ≡ cpu → next ≡ with_changes (sampled_of cap registers cpu) registers → Changed (sampled_of cap old) cpus old i registers
    → Changed (sampled_of cap old) cpus old (i + 1) next
sampled_more cap len cpus old registers next d cpu i processors lt is new before =
    let rule : Binding → List Change = sampled_of cap old in
    let is_rule : IsRule rule = sampled_all_of cap old in
    let front : List Change = flat_map rule (take i cpus) in
    let apart : (n : ℕ) (field : Field) → n < 23 → source_at cpu n ≡ At field → IsApartFrom field front =
    field_apart len cpus rule d cpu i processors is_rule lt is in
    let same : sampled_of cap (with_changes front old) cpu ≡ sampled_of cap old cpu =
    same_samples cap cpu (with_changes front old) old
    (λ n small. same_number front old (source_at cpu n) (λ field at. apart n field small at))
    (same_in front old (source_at cpu 8) (λ field at. apart 8 field (omega arith) at)) in
    let e : sampled_of cap registers cpu ≡ rule cpu = ap (λ (space : List ℕ). sampled_of cap space cpu) before.so_far ∙ same in
    changed_more rule len cpus old registers next d cpu i processors is_rule lt is
    (new ∙ ap (λ (changes : List Change). with_changes changes registers) e) before
