-- The lines of a served script, one after the other.
use Rattle.std.proofs.Common.{◌≡◌, ℕ, zero, suc, ◌+◌, ◌<◌, ◌≤◌, List, [], ◌∷◌, ◌++◌, length, drop, get_or, refl, sym, ap, ◌∙◌, arith}
use Rattle.std.specs.Prelude.{Option, Some, None}
use Rattle.std.proofs.lemmas.List.{append_assoc, append-nil, drop_all, drop_more, length-append, length-map}
use Rattle.pcc_script.specs.declared.scenario.Line.{Line}
use Rattle.cpc_package.specs.declared.binding.Binding.{Binding}
use Rattle.channel_turns.specs.ChannelRuns.{Channel}
use Rattle.script_run.specs.ReplyText.{replies_text, shown_text}
use Rattle.script_run.specs.StepRun.{LineAsk, Run, ShownReply, ask_of, asks_by, step_run, turn_of}

-- lines that are run up to one of them: the replies so far and those of the rest are those of all, and the rest leaves what all leave
pub record Going (lines : List LineAsk) (begin : List Channel) (i : ℕ) (now : List Channel) (shown : List (Option ShownReply)) : Type 0 where
  pub replies : shown ++ (step_run (drop i lines) now).replies ≡ (step_run lines begin).replies
  pub channels : (step_run (drop i lines) now).channels ≡ (step_run lines begin).channels
  pub count : length shown ≡ i

pub going_start : (lines : List LineAsk) (begin : List Channel) → Going lines begin 0 begin []
going_start lines begin = record { replies = refl; channels = refl; count = refl }

pub going_more : (lines : List LineAsk) (begin now next : List Channel) (shown : List (Option ShownReply)) (i : ℕ) (l : LineAsk) → i < length lines → l ≡ get_or lines i l → (turn_of l now).channels ≡ next
    → Going lines begin i now shown → Going lines begin (i + 1) next (shown ++ (turn_of l now).reply ∷ [])
going_more lines begin now next shown i l lt is left h =
    let rest : List LineAsk = drop (i + 1) lines in
    let reply : Option ShownReply = (turn_of l now).reply in
    let front : drop i lines ≡ l ∷ rest = drop_more lines i l lt ∙ ap (λ (x : LineAsk). x ∷ rest) (sym is) in
    let run : step_run (drop i lines) now ≡ step_run (l ∷ rest) now = ap (λ (v : List LineAsk). step_run v now) front in
    let after : step_run rest (turn_of l now).channels ≡ step_run rest next = ap (step_run rest) left in
    let len = length-append shown (reply ∷ []) in
    let before = h.count in
    record {
      replies = append_assoc shown (reply ∷ []) (step_run rest next).replies
          ∙ ap (λ (r : Run). shown ++ reply ∷ r.replies) (sym after) ∙ ap (λ (r : Run). shown ++ r.replies) (sym run) ∙ h.replies;
      channels = ap (λ (r : Run). r.channels) (sym after) ∙ ap (λ (r : Run). r.channels) (sym run) ∙ h.channels;
      count = omega arith;
    }

pub going_end : (lines : List LineAsk) (begin now : List Channel) (shown : List (Option ShownReply)) (i : ℕ) → length lines ≤ i → Going lines begin i now shown
    → (shown ≡ (step_run lines begin).replies) × ((step_run lines begin).channels ≡ now)
going_end lines begin now shown i le h =
    let run : step_run (drop i lines) now ≡ record { replies = []; channels = now } = ap (λ (v : List LineAsk). step_run v now) (drop_all i lines le) in (
      sym (append-nil shown) ∙ ap (λ (r : Run). shown ++ r.replies) (sym run) ∙ h.replies,
      sym h.channels ∙ ap (λ (r : Run). r.channels) run,
    )

-- ---- the text of the replies

replies_text-more : (first : ℕ) (rs : List (Option ShownReply)) (reply : Option ShownReply) → replies_text first (rs ++ reply ∷ []) ≡ replies_text first rs ++ replies_text (first + length rs) (reply ∷ [])
replies_text-more first [] reply = let none : first ≡ first + 0 = omega arith in ap (λ (n : ℕ). replies_text n (reply ∷ [])) none
replies_text-more first (None ∷ rs) reply =
    let number : first + 1 + length rs ≡ first + suc (length rs) = omega arith in
    replies_text-more (first + 1) rs reply ∙ ap (λ (n : ℕ). replies_text (first + 1) rs ++ replies_text n (reply ∷ [])) number
replies_text-more first (Some r ∷ rs) reply =
    let number : first + 1 + length rs ≡ first + suc (length rs) = omega arith in
    ap (λ (v : List ℕ). shown_text first r ++ v) (replies_text-more (first + 1) rs reply ∙ ap (λ (n : ℕ). replies_text (first + 1) rs ++ replies_text n (reply ∷ [])) number)
    ∙ sym (append_assoc (shown_text first r) (replies_text (first + 1) rs) (replies_text (first + suc (length rs)) (reply ∷ [])))

-- the replies so far were put
pub record Putting (first : ℕ) (lines : List LineAsk) (begin : List Channel) (before : List ℕ) (i : ℕ) (now : List Channel) (put : List ℕ) : Type 0 where
  pub shown : List (Option ShownReply)
  pub going : Going lines begin i now shown
  pub text : put ≡ before ++ replies_text first shown

pub putting_start : (first : ℕ) (lines : List LineAsk) (begin : List Channel) (put : List ℕ) → Putting first lines begin put 0 begin put
putting_start first lines begin put = record { shown = []; going = going_start lines begin; text = sym (append-nil put) }

pub putting_more : (first line : ℕ) (lines : List LineAsk) (begin now next : List Channel) (before put put' : List ℕ) (i : ℕ) (l : LineAsk) → i < length lines → l ≡ get_or lines i l → line ≡ first + i
    → put' ≡ put ++ replies_text line ((turn_of l now).reply ∷ []) → (turn_of l now).channels ≡ next
    → Putting first lines begin before i now put → Putting first lines begin before (i + 1) next put'
putting_more first line lines begin now next before put put' i l lt is at written left h =
    let reply : Option ShownReply = (turn_of l now).reply in
    let number : line ≡ first + length h.shown = at ∙ ap (λ (n : ℕ). first + n) (sym h.going.count) in
    record {
      shown = h.shown ++ reply ∷ [];
      going = going_more lines begin now next h.shown i l lt is left h.going;
      text = written ∙ ap (λ (v : List ℕ). v ++ replies_text line (reply ∷ [])) h.text ∙ append_assoc before (replies_text first h.shown) (replies_text line (reply ∷ []))
          ∙ ap (λ (n : ℕ). before ++ (replies_text first h.shown ++ replies_text n (reply ∷ []))) number ∙ ap (λ (v : List ℕ). before ++ v) (sym (replies_text-more first h.shown reply));
    }

pub putting_end : (first : ℕ) (lines : List LineAsk) (begin now : List Channel) (before put : List ℕ) (i : ℕ) → length lines ≤ i → Putting first lines begin before i now put
    → (put ≡ before ++ replies_text first (step_run lines begin).replies) × ((step_run lines begin).channels ≡ now)
putting_end first lines begin now before put i le h =
    let all = going_end lines begin now h.shown i le h.going in
    (h.text ∙ ap (λ (rs : List (Option ShownReply)). before ++ replies_text first rs) all.0, all.1)

-- ---- lines, by what they ask

pub asked_at : (cpus : List Binding) (ls : List Line) (i : ℕ) (l : Line) → l ≡ get_or ls i l → ask_of cpus l ≡ get_or (asks_by cpus ls) i (ask_of cpus l)
asked_at cpus ls i l e = ap (ask_of cpus) e ∙ each ls i
  where
    each : (xs : List Line) (k : ℕ) → ask_of cpus (get_or xs k l) ≡ get_or (asks_by cpus xs) k (ask_of cpus l)
    each [] k = refl
    each (x ∷ xs) zero = refl
    each (x ∷ xs) (suc k) = each xs k

pub within_lines : (cpus : List Binding) (ls : List Line) (i : ℕ) → i < length ls → i < length (asks_by cpus ls)
within_lines cpus ls i lt = let n : length (asks_by cpus ls) ≡ length ls = length-map ls (ask_of cpus) in omega (arith, lt, n)

pub lines_ended : (cpus : List Binding) (ls : List Line) (i : ℕ) → length ls ≤ i → length (asks_by cpus ls) ≤ i
lines_ended cpus ls i le = let n : length (asks_by cpus ls) ≡ length ls = length-map ls (ask_of cpus) in omega (arith, le, n)

pub putting_lines_end : (cpus : List Binding) (first : ℕ) (lines : List Line) (begin now : List Channel) (before put : List ℕ) (i : ℕ) → length lines ≤ i → Putting first (asks_by cpus lines) begin before i now put
    → (put ≡ before ++ replies_text first (step_run (asks_by cpus lines) begin).replies) × ((step_run (asks_by cpus lines) begin).channels ≡ now)
putting_lines_end cpus first lines begin now before put i le h = putting_end first (asks_by cpus lines) begin now before put i (lines_ended cpus lines i le) h
