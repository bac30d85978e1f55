-- A line is put at the end of what is read so far.
use Rattle.std.proofs.Common.{◌≡◌, ℕ, ◌≤◌, List, [], ◌∷◌, ◌++◌, refl, arith, lit<}
use Rattle.std.specs.Prelude.{Some}
use Rattle.pcc_script.specs.Rows.{place}
use Rattle.pcc_script.specs.declared.word.Word.TheVariants as word
use Rattle.std.proofs.lemmas.List.{append_assoc, append-nil, map-append}
use Rattle.pcc_script.specs.declared.scenario.OpenLine.{OpenLine}
use Rattle.pcc_script.specs.declared.scenario.CapLine.{CapLine}
use Rattle.pcc_script.specs.declared.scenario.Letter.{Letter}
use Rattle.pcc_script.specs.declared.scenario.Line.{Line}
use Rattle.pcc_script.specs.declared.partial.Partial.{Partial}
use Rattle.pcc_script.specs.declared.partial.ClockLine.{ClockLine}
use Rattle.pcc_script.specs.Text.{table_statement, clock_statement, open_statement, cpu_statement, cap_statement, action_statement, pick_statement}
use Rattle.pcc_script.proofs.Counting.{action_place}
use Rattle.pcc_script.specs.Reading.{so_far, Empty}

-- where the next line stands at a place or behind it, there is nothing behind that place
pub empty_later : (next place : ℕ) (p : Partial) → next ≤ place → Empty next p → Empty place p
empty_later next place p le e = record {
  table = λ h. e.table (omega arith);
  clock = λ h. e.clock (omega arith);
  opens = λ h. e.opens (omega arith);
  cpus = λ h. e.cpus (omega arith);
  caps = λ h. e.caps (omega arith);
  actions = λ h. e.actions (omega arith);
  picks = λ h. e.picks (omega arith);
}

pub put_table : (p : Partial) (bytes : List ℕ) → Empty (place word.Table) p → so_far (record p { table = Some bytes }) ≡ so_far p ++ table_statement bytes ∷ []
put_table p bytes e = rw (e.table (lit< tt), e.clock (lit< tt), e.opens (lit< tt), e.cpus (lit< tt), e.caps (lit< tt), e.actions (lit< tt), e.picks (lit< tt)) refl

pub put_clock : (p : Partial) (c : ClockLine) → Empty (place word.Clock) p
    → so_far (record p { clock = Some c }) ≡ so_far p ++ clock_statement c.start c.step ∷ []
put_clock p c e = rw (e.clock (lit< tt), e.opens (lit< tt), e.cpus (lit< tt), e.caps (lit< tt), e.actions (lit< tt), e.picks (lit< tt)) (simp append-nil)

pub put_open : (p : Partial) (o : OpenLine) → Empty (place word.Open) p → so_far (record p { opens = p.opens ++ o ∷ [] }) ≡ so_far p ++ open_statement o ∷ []
put_open p o e = rw (e.cpus (lit< tt), e.caps (lit< tt), e.actions (lit< tt), e.picks (lit< tt)) (simp (map-append, append-nil, append_assoc))

pub put_cpu : (p : Partial) (bytes : List ℕ) → Empty (place word.Cpu) p
    → so_far (record p { cpus = p.cpus ++ bytes ∷ [] }) ≡ so_far p ++ cpu_statement bytes ∷ []
put_cpu p bytes e = rw (e.caps (lit< tt), e.actions (lit< tt), e.picks (lit< tt)) (simp (map-append, append-nil, append_assoc))

pub put_cap : (p : Partial) (c : CapLine) → Empty (place word.Cap) p → so_far (record p { caps = p.caps ++ c ∷ [] }) ≡ so_far p ++ cap_statement c ∷ []
put_cap p c e = rw (e.actions (lit< tt), e.picks (lit< tt)) (simp (map-append, append-nil, append_assoc))

pub put_action : (p : Partial) (l : Line) → Empty (place (action_statement l).word) p
    → so_far (record p { actions = p.actions ++ l ∷ [] }) ≡ so_far p ++ action_statement l ∷ []
put_action p l e =
    let at : place (action_statement l).word ≡ 5 = action_place l in
    rw (e.picks (omega arith)) (simp (map-append, append-nil, append_assoc))

pub put_pick : (p : Partial) (ls : List Letter) → Empty (place word.Pick) p → so_far (record p { picks = Some ls }) ≡ so_far p ++ pick_statement ls ∷ []
put_pick p ls e = rw (e.picks (lit< tt)) (simp (append-nil, append_assoc))
