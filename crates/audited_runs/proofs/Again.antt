-- The lines of a script before its actions, and then journals, are cut into these, and open the same.
use Rattle.std.proofs.Common.{◌≡◌, ℕ, ◌≤◌, eqb, true, false, List, [], ◌∷◌, ◌++◌, length, map, refl, ap, ◌∙◌, arith}
use Rattle.std.specs.Prelude.{bytes_eq, codes, slice_index_or}
use Rattle.std.specs.List.{AllByRecursion}
use Rattle.std.proofs.lemmas.List.{append_assoc, length-map}
use Rattle.std.proofs.lemmas.List.Splits.{slice_split_at, slice_split_none}
use Rattle.pcc_bytes.specs.Fields.{joined, split_at}
use Rattle.pcc_text.specs.Pieces.{spelled}
use Rattle.pcc_text.proofs.Laws.{All-from_lacks, lacks}
use Rattle.pcc_journal.specs.declared.text.JournalHead.{JournalHead}
use Rattle.pcc_journal.specs.JournalText.{end_line, head_line, journal_text, pending_text, records_text}
use Rattle.journal_reading.specs.Rows.{Word, head_row, head_values, words}
use Rattle.journal_reading.specs.Faults.{HeadAt}
use Rattle.journal_reading.specs.Told.{IsTold, told_text}
use Rattle.journal_reading.specs.declared.told.Told.{Told}
use Rattle.journal_reading.proofs.Cuts.{cut_line}
use Rattle.journal_reading.proofs.Found.{head_as_line, head_is_row, later}
use Rattle.journal_reading.proofs.RowReading.{each_lacks, feed}
use Rattle.pcc_script.specs.Limits.{IsWithin}
use Rattle.pcc_script.specs.Rows.{text_of}
use Rattle.pcc_script.specs.Text.{InOrder, IsScenario, Statement, line_of, script_text, statements_of, statements_text}
use Rattle.pcc_script.specs.declared.scenario.Scenario.{Scenario}
use Rattle.pcc_script.specs.declared.word.Word.{Word as ScriptWord}
use Rattle.pcc_script.specs.declared.word.Word.TheVariants as word
use Rattle.pcc_script.proofs.Sequence.{statement_one}
use Rattle.pcc_setup.specs.SetUps.{Opens}
use Rattle.pcc_setup.specs.declared.opening.Opened.{Opened}
use Rattle.script_run.specs.Channels.{fresh_channel, id_of}
use Rattle.script_run.specs.ScriptRuns.{clock_of, set_up_of, start_of}
use Rattle.pcc_script.specs.declared.scenario.OpenLine.{OpenLine}
use Rattle.script_run.proofs.Starting.{ids_are}
use Rattle.audit_run.specs.Cuts.{IsCut, IsScriptLine, JournalsFrom, first_field, first_line, is_journal}
use Rattle.audit_run.specs.Journals.{journals_text}
use Rattle.audit_run.proofs.Cutting.{first_is}
use Rattle.audited_runs.specs.Audited.{without_actions}

-- ---- the script

pub bare_within : (s : Scenario) → IsWithin s → IsWithin (without_actions s)
bare_within s h = record {
  table = h.table;
  start = h.start;
  step = h.step;
  opens = h.opens;
  some_opens = h.some_opens;
  few_opens = h.few_opens;
  cpus = h.cpus;
  few_cpus = h.few_cpus;
  caps = h.caps;
  few_caps = h.few_caps;
  actions = tt;
  few_actions = omega arith;
  picks = tt;
}

-- it opens the same
pub bare_opens : (s : Scenario) (opened : List Opened) → Opens s opened → Opens (without_actions s) opened
bare_opens s opened h = record {
  table = h.table;
  checked = record {
    table = h.checked.table;
    all_open = h.checked.all_open;
    apart = h.checked.apart;
    cpus = h.checked.cpus;
    bound = h.checked.bound;
    capped = h.checked.capped;
    inside = h.checked.inside;
    named = λ i l lt at. absurd cc;
  };
  list_is = h.list_is;
}

-- ---- fields

-- the first field of a line whose first word has no space
first_is_word : (w : List ℕ) (ws : List (List ℕ)) → lacks 32 w ≡ true → first_field (joined (w ∷ ws)) ≡ w
first_is_word w [] h = ap (λ (v : List (List ℕ)). slice_index_or v 0 []) (slice_split_none (λ b. eqb b 32) w (All-from_lacks 32 w h))
first_is_word w (v ∷ vs) h = ap (λ (x : List (List ℕ)). slice_index_or x 0 []) (slice_split_at (λ b. eqb b 32) w 32 (joined (v ∷ vs)) (All-from_lacks 32 w h) refl)

word_lacks : (w : ScriptWord) → lacks 32 (text_of w) ≡ true
word_lacks word.Table = refl
word_lacks word.Clock = refl
word_lacks word.Open = refl
word_lacks word.Cpu = refl
word_lacks word.Cap = refl
word_lacks word.Call = refl
word_lacks word.Read = refl
word_lacks word.Set = refl
word_lacks word.Wait = refl
word_lacks word.Pick = refl

no_journal : (w : ScriptWord) → bytes_eq (text_of w) (codes "journal") ≡ false
no_journal word.Table = refl
no_journal word.Clock = refl
no_journal word.Open = refl
no_journal word.Cpu = refl
no_journal word.Cap = refl
no_journal word.Call = refl
no_journal word.Read = refl
no_journal word.Set = refl
no_journal word.Wait = refl
no_journal word.Pick = refl

-- ---- the cut

script_lines : (before rs : List Statement) → InOrder before rs → AllByRecursion IsScriptLine (map line_of rs)
script_lines before [] h = tt
script_lines before (r ∷ rs) h = (
  record {
    one = statement_one before r h.0;
    other = ap (λ (v : List ℕ). bytes_eq v (codes "journal")) (first_is_word (text_of r.word) _ (word_lacks r.word)) ∙ no_journal r.word;
  },
  script_lines (before ++ r ∷ []) rs h.1,
)

-- a text that begins with the head of a journal begins journals
head_begins : (text : List ℕ) (h : JournalHead) (rest : List ℕ) → HeadAt text h rest → is_journal (first_line text) ≡ true
head_begins text h rest a =
    let l = head_as_line text h rest a in
    let fields : List (List ℕ) = words (later head_row) (head_values h) in
    let parts : split_at 10 text ≡ joined (codes "journal" ∷ fields) ∷ split_at 10 rest =
    cut_line (codes "journal") fields rest text (each_lacks 10 (Word (codes "journal") ∷ later head_row) (head_values h) feed head_is_row.feeds l.fit) l.is in
    ap is_journal (first_is text (joined (codes "journal" ∷ fields)) (split_at 10 rest) parts)
    ∙ ap (λ (v : List ℕ). bytes_eq v (codes "journal")) (first_is_word (codes "journal") fields refl)

begins_journals : (t : Told) (more : List ℕ) → IsTold t → is_journal (first_line (told_text t ++ more)) ≡ true
unfolding journal_text
begins_journals t more right =
    let body : List ℕ = records_text 0 t.records ++ (pending_text t.pending ++ spelled (end_line t.head)) in
    head_begins (told_text t ++ more) t.head (body ++ more) (record { right = right.head; is = append_assoc (spelled (head_line t.head)) body more })

pub cut_again : (s : Scenario) (t : Told) (ts : List Told) → IsScenario s → IsTold t → IsCut (script_text s ++ journals_text (t ∷ ts)) (script_text s) (journals_text (t ∷ ts))
unfolding script_text statements_text
cut_again s t ts is right =
    JournalsFrom (map line_of (statements_of s)) (journals_text (t ∷ ts)) (script_lines [] (statements_of s) is.right) (begins_journals t (journals_text ts) right) refl

-- ---- there is a journal

-- as many are opened as lines say
pub some_opened : (s : Scenario) (os : List Opened) → Opens s os → 1 ≤ length s.opens → 1 ≤ length os
some_opened s os h some =
    let ids : length (map id_of (set_up_of s os)) ≡ length (map (λ o. o.id) s.opens) = ap length (ids_are s os h) in
    let channels : length (map id_of (set_up_of s os)) ≡ length (set_up_of s os) = length-map (set_up_of s os) id_of in
    let begun : length (set_up_of s os) ≡ length os = length-map os (λ (o : Opened). fresh_channel (start_of (clock_of s) o)) in
    let lines : length (map (λ o. o.id) s.opens) ≡ length s.opens = length-map s.opens (λ (o : OpenLine). o.id) in
    omega (arith, ids, channels, begun, lines, some)
