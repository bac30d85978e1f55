-- An input is cut in one way.
use Rattle.std.proofs.Common.{◌≡◌, ℕ, ◌≤◌, Bool, true, false, List, [], ◌∷◌, ◌++◌, length, refl, sym, ap, ◌∙◌, subst, arith}
use Rattle.std.specs.List.{AllByRecursion, flat_map, join_with_byte}
use Rattle.std.proofs.lemmas.List.{append_assoc}
use Rattle.pcc_bytes.specs.Fields.{line_text, split_at}
use Rattle.pcc_text.proofs.Laws.{EachLacks, split_join, text_of_parts}
use Rattle.pcc_text.proofs.Lines.{split_lacks, split_more, split_some}
use Rattle.journal_reading.proofs.Cuts.{same_split}
use Rattle.audit_run.specs.Cuts.{HasCut, IsCut, IsScriptLine, JournalsFrom, NoJournals, first_line, is_journal}
use Rattle.audit_run.proofs.Cutting.{first_is, lines_lack}

-- ---- there is a cut

abbrev join : List (List ℕ) → List ℕ
join parts = join_with_byte 10 parts

-- a line of the script part in front of a text that is cut
one_more : (text line script journals : List ℕ) → IsScriptLine line → split_at 10 (line ++ 10 ∷ text) ≡ line ∷ split_at 10 text
    → IsCut text script journals → HasCut (line ++ 10 ∷ text)
one_more text line script journals right e (NoJournals all) = record {
  script = line ++ 10 ∷ text;
  journals = [];
  cut = NoJournals (subst (AllByRecursion IsScriptLine) (sym e) (right, all));
}
one_more text line script journals right e (JournalsFrom lines others all journal is) = record {
  script = flat_map line_text (line ∷ lines);
  journals = others;
  cut = JournalsFrom (line ∷ lines) others (right, all) journal (ap (λ (v : List ℕ). line ++ 10 ∷ v) is ∙ regroup line (flat_map line_text lines) others);
}
  where
    regroup : (line script others : List ℕ) → line ++ 10 ∷ (script ++ others) ≡ ((line ++ 10 ∷ []) ++ script) ++ others
    regroup line script others = simp append_assoc

begins_here : (text line : List ℕ) (parts : List (List ℕ)) → split_at 10 text ≡ line ∷ parts → is_journal line ≡ true → HasCut text
begins_here text line parts e journal = record {
  script = [];
  journals = text;
  cut = JournalsFrom [] text tt (ap is_journal (first_is text line parts e) ∙ journal) refl;
}

last_case : (line : List ℕ) (test : Bool) → is_journal line ≡ test → EachLacks 10 (line ∷ []) → HasCut line
last_case line true t h = begins_here line line [] (split_join 10 line [] h) t
last_case line false t h = record {
  script = line;
  journals = [];
  cut = NoJournals (subst (AllByRecursion IsScriptLine) (sym (split_join 10 line [] h)) (record { one = h.0; other = t }, tt));
}

next_case : (line : List ℕ) (parts : List (List ℕ)) (text : List ℕ) (test : Bool) → is_journal line ≡ test → EachLacks 10 (line ∷ parts)
    → split_at 10 (line ++ 10 ∷ text) ≡ line ∷ split_at 10 text → HasCut text → HasCut (line ++ 10 ∷ text)
next_case line parts text true t h e c = begins_here (line ++ 10 ∷ text) line (split_at 10 text) e t
next_case line parts text false t h e c = one_more text line c.script c.journals (record { one = h.0; other = t }) e c.cut

cut_parts : (parts : List (List ℕ)) → 1 ≤ length parts → EachLacks 10 parts → HasCut (join parts)
cut_parts [] some h = absurd (omega arith)
cut_parts (line ∷ []) some h = last_case line (is_journal line) refl h
cut_parts (line ∷ next ∷ parts) some h =
    let e : split_at 10 (join (line ∷ next ∷ parts)) ≡ line ∷ split_at 10 (join (next ∷ parts)) =
    split_join 10 line (next ∷ parts) h ∙ ap (λ (v : List (List ℕ)). line ∷ v) (sym (split_join 10 next parts h.1)) in
    next_case line (next ∷ parts) (join (next ∷ parts)) (is_journal line) refl h e (cut_parts (next ∷ parts) (omega arith) h.1)

pub some_cut : (input : List ℕ) → HasCut input
some_cut input =
    subst HasCut (sym (text_of_parts 10 input (split_at 10 input) refl)) (cut_parts (split_at 10 input) (split_some 10 input) (split_lacks 10 input))

-- ---- and no other

journal_no_script : (line : List ℕ) → IsScriptLine line → is_journal line ≡ true → ⊥
journal_no_script line right journal = let other : is_journal line ≡ false = right.other in cc

-- the first line of journals is none of the script part
never : (line journals : List ℕ) (parts : List (List ℕ)) → split_at 10 journals ≡ line ∷ parts → is_journal (first_line journals) ≡ true → IsScriptLine line → ⊥
never line journals parts e journal right =
    journal_no_script line right (ap is_journal (sym (first_is journals line parts e)) ∙ journal)

-- the same lines are before the journals
same_lines : (lines others : List (List ℕ)) (journals another : List ℕ) → AllByRecursion IsScriptLine lines → AllByRecursion IsScriptLine others
    → is_journal (first_line journals) ≡ true → is_journal (first_line another) ≡ true
    → lines ++ split_at 10 journals ≡ others ++ split_at 10 another → (lines ≡ others) × (split_at 10 journals ≡ split_at 10 another)
same_lines [] [] journals another h k i j e = (refl, e)
same_lines [] (o ∷ others) journals another h k i j e = absurd (never o journals (others ++ split_at 10 another) e i k.0)
same_lines (l ∷ lines) [] journals another h k i j e = absurd (never l another (lines ++ split_at 10 journals) (sym e) j h.0)
same_lines (l ∷ lines) (o ∷ others) journals another h k i j e =
    let first : l ≡ o = cc in
    let tail : lines ++ split_at 10 journals ≡ others ++ split_at 10 another = cc in
    let s = same_lines lines others journals another h.1 k.1 i j tail in
    (ap (λ (v : List ℕ). v ∷ lines) first ∙ ap (λ (v : List (List ℕ)). o ∷ v) s.0, s.1)

-- journals are among the parts of a text
part_of : (lines parts : List (List ℕ)) → AllByRecursion IsScriptLine (lines ++ parts) → AllByRecursion IsScriptLine parts
part_of [] parts all = all
part_of (l ∷ lines) parts all = part_of lines parts all.1

first_part : (journals : List ℕ) (parts : List (List ℕ)) → split_at 10 journals ≡ parts → 1 ≤ length parts → is_journal (first_line journals) ≡ true
    → AllByRecursion IsScriptLine parts → ⊥
first_part journals [] e some i all = absurd (omega arith)
first_part journals (line ∷ parts) e some i all = never line journals parts e i all.0

parts_before : (input : List ℕ) (lines : List (List ℕ)) (journals : List ℕ) → AllByRecursion IsScriptLine lines → input ≡ flat_map line_text lines ++ journals
    → split_at 10 input ≡ lines ++ split_at 10 journals
parts_before input lines journals right is = ap (split_at 10) is ∙ split_more lines journals (lines_lack lines right)

no_journals : (input : List ℕ) (lines : List (List ℕ)) (journals : List ℕ) → AllByRecursion IsScriptLine (split_at 10 input)
    → AllByRecursion IsScriptLine lines → is_journal (first_line journals) ≡ true → input ≡ flat_map line_text lines ++ journals → ⊥
no_journals input lines journals all right i is =
    let parts = subst (AllByRecursion IsScriptLine) (parts_before input lines journals right is) all in
    first_part journals (split_at 10 journals) refl (split_some 10 journals) i (part_of lines (split_at 10 journals) parts)

pub one_cut : (input script journals other another : List ℕ) → IsCut input script journals → IsCut input other another
    → (script ≡ other) × (journals ≡ another)
one_cut input script journals other another (NoJournals all) (NoJournals each) = (refl, refl)
one_cut input script journals other another (NoJournals all) (JournalsFrom lines js right i is) = absurd (no_journals input lines js all right i is)
one_cut input script journals other another (JournalsFrom lines js right i is) (NoJournals all) = absurd (no_journals input lines js all right i is)
one_cut input script journals other another (JournalsFrom lines js right i is) (JournalsFrom others ks good j are) =
    let s = same_lines lines others js ks right good i j (sym (parts_before input lines js right is) ∙ parts_before input others ks good are) in
    (ap (flat_map line_text) s.0, same_split js ks s.1)
