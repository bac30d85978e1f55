-- Records are paired with notes, and the events of a journal grow with it.
use Rattle.std.proofs.Common.{◌≡◌, ℕ, ◌+◌, Bool, true, false, List, [], ◌∷◌, ◌++◌, Option, Some, None, length, refl, sym, ap, ◌∙◌, arith}
use Rattle.std.specs.List.{flat_map}
use Rattle.std.proofs.lemmas.List.{append_assoc, append-nil}
use Rattle.std.proofs.lemmas.List.Concat.{flat_map-append}
use Rattle.pcc_journal.specs.declared.record.Record.{Record}
use Rattle.pcc_journal.specs.declared.note.Note.{Note}
use Rattle.pcc_journal.specs.Events.{Event, Drained, Lost, Posted, Completed, Noted, NotedPending, completed_of, completion_events, events_of, events_of_pending, events_of_record, noted, notes_of, post_count, posted_of, posted_of_pending, records_of}

-- ---- pairs

pub noted_records : (rs : List Record) (ns : List Note) → records_of (noted rs ns) ≡ rs
noted_records [] ns = refl
noted_records (r ∷ rs) [] = ap (λ (v : List Record). r ∷ v) (noted_records rs [])
noted_records (r ∷ rs) (n ∷ ns) = ap (λ (v : List Record). r ∷ v) (noted_records rs ns)

pub noted_notes : (rs : List Record) (ns : List Note) → length ns ≡ length rs → notes_of (noted rs ns) ≡ ns
noted_notes [] [] e = refl
noted_notes [] (n ∷ ns) e = absurd (omega arith)
noted_notes (r ∷ rs) [] e = absurd (omega arith)
noted_notes (r ∷ rs) (n ∷ ns) e =
    let same : length ns ≡ length rs = omega arith in ap (λ (v : List Note). n ∷ v) (noted_notes rs ns same)

pub noted_again : (entries : List Noted) → noted (records_of entries) (notes_of entries) ≡ entries
noted_again [] = refl
noted_again (e ∷ es) = ap (λ (v : List Noted). e ∷ v) (noted_again es)

pub noted_last : (rs : List Record) (ns : List Note) (r : Record) (n : Note) → length ns ≡ length rs
    → noted (rs ++ r ∷ []) (ns ++ n ∷ []) ≡ noted rs ns ++ record { entry = r; note = n } ∷ []
noted_last [] [] r n e = refl
noted_last [] (m ∷ ns) r n e = absurd (omega arith)
noted_last (q ∷ rs) [] r n e = absurd (omega arith)
noted_last (q ∷ rs) (m ∷ ns) r n e =
    let same : length ns ≡ length rs = omega arith in
    let first : Noted = record { entry = q; note = m } in
    ap (λ (v : List Noted). first ∷ v) (noted_last rs ns r n same)

-- ---- events

pub post_count-append : (xs ys : List Event) → post_count (xs ++ ys) ≡ post_count xs + post_count ys
post_count-append [] ys = omega arith
post_count-append (x ∷ xs) ys = omega (arith, post_count-append xs ys)

one_post : (late : Bool) (p : Posted) (looks : ℕ) (c : Completed) → post_count (completion_events late p looks c) ≡ 1
one_post false p looks c = refl
one_post true p looks c = refl

posts_of_entries : (before : ℕ) (ns : List Noted) → post_count (flat_map (events_of_record before) ns) ≡ length ns
posts_of_entries before [] = refl
posts_of_entries before (n ∷ ns) =
    let first : post_count (events_of_record before n) ≡ 1 = one_post n.entry.late (posted_of before n.entry n.note) n.note.looks (completed_of before n.entry n.note) in
    omega (arith, first, posts_of_entries before ns, post_count-append (events_of_record before n) (flat_map (events_of_record before) ns))

posts_of_pending : (before : ℕ) (pending : Option NotedPending) → post_count (events_of_pending before pending) ≡ length (events_of_pending before pending)
posts_of_pending before None = refl
posts_of_pending before (Some p) = refl

pub posts : (before : ℕ) (ns : List Noted) (pending : Option NotedPending)
    → post_count (events_of before ns pending) ≡ length ns + length (events_of_pending before pending)
posts before ns pending =
    omega (arith, posts_of_entries before ns, posts_of_pending before pending, post_count-append (flat_map (events_of_record before) ns) (events_of_pending before pending))

last_entry : (before : ℕ) (ns : List Noted) (n : Noted)
    → flat_map (events_of_record before) (ns ++ n ∷ []) ≡ flat_map (events_of_record before) ns ++ events_of_record before n
last_entry before ns n =
    flat_map-append (events_of_record before) ns (n ∷ [])
    ∙ ap (λ (v : List Event). flat_map (events_of_record before) ns ++ v) (append-nil (events_of_record before n))

pub last : (before : ℕ) (ns : List Noted) (n : Noted) → events_of before (ns ++ n ∷ []) None ≡ events_of before ns None ++ events_of_record before n
last before ns n =
    append-nil (flat_map (events_of_record before) (ns ++ n ∷ []))
    ∙ last_entry before ns n
    ∙ ap (λ (es : List Event). es ++ events_of_record before n) (sym (append-nil (flat_map (events_of_record before) ns)))

pub posted : (before : ℕ) (ns : List Noted) (pending : Option NotedPending)
    → events_of before ns pending ≡ events_of before ns None ++ events_of_pending before pending
posted before ns pending = ap (λ (es : List Event). es ++ events_of_pending before pending) (sym (append-nil (flat_map (events_of_record before) ns)))

late_events : (b : Bool) (p q : Posted) (m k : ℕ) (c : Completed) → b ≡ true → p ≡ q → m ≡ k → completion_events b p m c ≡ Lost q k ∷ Drained c ∷ []
late_events true p q m k c l e f = ap (λ (x : Posted). Lost x m ∷ Drained c ∷ []) e ∙ ap (λ (x : ℕ). Lost q x ∷ Drained c ∷ []) f
late_events false p q m k c l e f = absurd cc

pub drained : (before : ℕ) (ns : List Noted) (p : NotedPending) (n : Noted) → n.entry.late ≡ true
    → posted_of before n.entry n.note ≡ posted_of_pending before p → n.note.looks ≡ p.note.looks
    → events_of before (ns ++ n ∷ []) None ≡ events_of before ns (Some p) ++ Drained (completed_of before n.entry n.note) ∷ []
drained before ns p n late same looks =
    let es : List Event = flat_map (events_of_record before) ns in
    let c : Completed = completed_of before n.entry n.note in
    let q : Posted = posted_of_pending before p in
    let own : events_of_record before n ≡ Lost q p.note.looks ∷ Drained c ∷ [] = late_events n.entry.late (posted_of before n.entry n.note) q n.note.looks p.note.looks c late same looks in
    append-nil (flat_map (events_of_record before) (ns ++ n ∷ []))
    ∙ last_entry before ns n
    ∙ ap (λ (v : List Event). es ++ v) own
    ∙ sym (append_assoc es (Lost q p.note.looks ∷ []) (Drained c ∷ []))
