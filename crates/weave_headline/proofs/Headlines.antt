-- The headline of a run of words.
use Rattle.std.proofs.Common.{◌≡◌, ◌≤◌, ℕ, ◌+◌, Bool, true, false, List, [], ◌∷◌, ◌++◌, length, take, refl, sym, ap, ◌∙◌, subst, arith}
use Rattle.std.specs.Prelude.{Option, Some, None}
use Rattle.std.specs.List.{AllByRecursion, filter, slice_get}
use Rattle.std.proofs.lemmas.List.{append-nil, length-append, take-append-le, take_all}
use Rattle.pcc_history.specs.Devices.{Device}
use Rattle.pcc_history.specs.Channel.{Exchange}
use Rattle.pcc_history.specs.Histories.{Legal}
use Rattle.rate_limit.specs.declared.Limits.{Limits}
use Rattle.pcc_journal.specs.declared.note.Note.{Note}
use Rattle.pcc_journal.specs.declared.record.Record.{Record}
use Rattle.pcc_journal.specs.Records.{exchanges_of}
use Rattle.pcc_journal.specs.Events.{noted, noted_pending}
use Rattle.pcc_steps.specs.declared.wiring.Wiring.{Wiring}
use Rattle.pcc_steps.specs.Runs.{look_run}
use Rattle.channel_core.specs.declared.sent.Sent.{Sent}
use Rattle.channel_core.specs.Sendings.{command_of}
use Rattle.channel_plain.specs.declared.trace.Side.{Side}
use Rattle.channel_plain.specs.declared.trace.Asked.{Asked}
use Rattle.channel_plain.specs.declared.trace.TraceLine.{TraceLine}
use Rattle.channel_plain.specs.Picks.{sent_by}
use Rattle.channel_plain.specs.WordRuns.{Calls, Cut, IsAsking, WordRun, asked_line, from_opening, looking, posts_call, reading_at, sending, whole}
use Rattle.channel_headline.proofs.WholeRuns.{all_ended}
use Rattle.channel_headline.specs.Headline.{Headline}
use Rattle.channel_headline.specs.Lines.{AreEnded, CallLine, HasReply, asked_along, asked_by}
use Rattle.weave_headline.specs.TraceLog.{TraceLog, empty_log, line_of, lines_in, log_from, log_of, open_line}
use Rattle.weave_headline.specs.WordHeadline.{WordHeadline, journal_of, terms_of}
use Rattle.weave_headline.proofs.Points.{IsLost, Point, headline_at, lost, lost_note, note_of, nothing}
use Rattle.weave_headline.proofs.Turns.{Flies, Holds, Rests, late, log_append, log_walk, owned, quiet, turns_hold}

ended_before : (ls : List CallLine) (l : CallLine) → AllByRecursion (λ x. HasReply x.reply) ls → AreEnded (ls ++ l ∷ [])
ended_before [] l h = tt
ended_before (x ∷ []) l h = (h.0, tt)
ended_before (x ∷ y ∷ ls) l h = (h.0, ended_before (y ∷ ls) l h.1)

module _ (exec : Device) (w : Wiring) (limits : Limits) (start opening : List ℕ) (calls : List Asked) where
  -- the headline with a command in flight, its note, and the lines
  abbrev Keeps : Calls → TraceLog → Option Sent → Option Note → List CallLine → Type 0
  Keeps s g sent flight lines = Headline (terms_of exec w limits start opening) s.readings (asked_along opening (exchanges_of s.records) (asked_by lines)) lines
      (record { entries = noted s.records g.notes; pending = noted_pending (command_of sent) flight })

  no_open : (g : TraceLog) → g.unended ≡ false → lines_in w calls g ≡ g.calls
  no_open g e = ap (λ (b : Bool). g.calls ++ open_line w calls b (slice_get calls (length g.calls))) e ∙ append-nil g.calls

  keeps : (s : Calls) (g : TraceLog) → Legal exec w.reports start (exchanges_of s.records) → Holds exec w limits start opening calls s g
      → Flies exec w limits start opening calls s g → Keeps s g s.sent g.flight (lines_in w calls g)
  keeps s g legal h (quiet a f u p) =
      let one : Keeps s g None None g.calls = headline_at exec w limits start opening s.space s.readings s.records g.notes None g.calls legal (all_ended g.calls h.replies) p in
      subst (λ (o : Option Sent). Keeps s g o g.flight (lines_in w calls g)) (sym a) (subst (λ (o : Option Note). Keeps s g None o (lines_in w calls g)) (sym f) (subst (λ (v : List CallLine). Keeps s g None None v) (sym (no_open g u)) one))
  keeps s g legal h (late p n a l f u q) =
      let one : Keeps s g (Some p) (Some n) g.calls = headline_at exec w limits start opening s.space s.readings s.records g.notes (Some (record { command = p.command; note = n })) g.calls legal (all_ended g.calls h.replies) q in
      subst (λ (o : Option Sent). Keeps s g o g.flight (lines_in w calls g)) (sym a) (subst (λ (o : Option Note). Keeps s g (Some p) o (lines_in w calls g)) (sym f) (subst (λ (v : List CallLine). Keeps s g (Some p) (Some n) v) (sym (no_open g u)) one))
  keeps s g legal h (owned c rs r a f u e b at pass room le p) =
      let k : CallLine = line_of c None 0 in
      let sent : Sent = sent_by c s.space (reading_at rs r) in
      let n : Note = note_of (length rs) 0 0 in
      let is : IsLost exec w limits start opening k 0 = record { posted = refl; unsoon = refl; matches = λ before post number. (((refl, refl, refl, refl), refl), tt); cause = λ qs es ls ok. ok } in
      let P : List ℕ → Type 0 = λ v. Point exec w limits start opening s.space v s.records g.notes (Some (lost_note sent.command (length rs) 0)) (g.calls ++ k ∷ []) in
      let point : Point exec w limits start opening s.space (rs ++ r ∷ []) s.records g.notes (Some (lost_note sent.command (length rs) 0)) (g.calls ++ k ∷ []) =
      lost exec w limits start opening s.space rs s.records g.notes g.calls k 0 r is pass room le p in
      let one : Keeps s g (Some sent) (Some n) (g.calls ++ k ∷ []) =
      headline_at exec w limits start opening s.space s.readings s.records g.notes (Some (lost_note sent.command (length rs) 0)) (g.calls ++ k ∷ []) legal (ended_before g.calls k h.replies) (subst P (sym e) point) in
      let lines : lines_in w calls g ≡ g.calls ++ k ∷ [] =
      ap (λ (v : Bool). g.calls ++ open_line w calls v (slice_get calls (length g.calls))) u
      ∙ ap (λ (o : Option Asked). g.calls ++ open_line w calls true o) (ap (λ (m : ℕ). slice_get calls m) h.ended ∙ at) in
      subst (λ (o : Option Sent). Keeps s g o g.flight (lines_in w calls g)) (sym a) (subst (λ (o : Option Note). Keeps s g (Some sent) o (lines_in w calls g)) (sym f) (subst (λ (v : List CallLine). Keeps s g (Some sent) (Some n) v) (sym lines) one))

  -- ---- the run that is cut

  -- its steps, and one reading at most
  cut_log : (s : Calls) (ls : List TraceLine) (rs : List ℕ) (g : TraceLog) → Cut w limits calls s ls rs
      → (run : List TraceLine) × (log_from w calls g ls ≡ record g { run = run }) × (length rs ≤ 1)
  cut_log s ls rs g (whole _) = (g.run, refl, omega arith)
  cut_log s ls rs g (sending _ s' c r l ms rest sv free le walks left) = (g.run ++ l ∷ ms, log_walk w calls (posts_call w c s'.block) rest (l ∷ ms) g walks, omega arith)
  cut_log s ls rs g (looking _ s' c p l ms rest sv es walks left) = (g.run ++ l ∷ ms, log_walk w calls (look_run w) rest (l ∷ ms) g walks, omega arith)

  abbrev first : Calls
  first = from_opening w limits calls opening

  first_holds : Rests exec w limits start opening calls first empty_log
  first_holds = record { told = record { ended = refl; taken = refl; replies = tt; serves = λ b. absurd (no b); flies = quiet refl refl refl (nothing exec w limits start opening) }; rest = refl }
    where
      no : false ≡ true → ⊥
      no e = cc

  -- a log of these lines keeps the headline
  abbrev Told : TraceLog → List ℕ → List Record → Option Sent → Type 0
  Told g readings records sent =
      Headline (terms_of exec w limits start opening) (take g.taken readings) (asked_along opening (exchanges_of records) (asked_by (lines_in w calls g))) (lines_in w calls g) (journal_of g records sent)
      × (g.taken ≤ length readings) × (length readings ≤ g.taken + 1)

  asking_told : (lines : List TraceLine) (readings : List ℕ) (records : List Record) (sent : Option Sent) → Legal exec w.reports start (exchanges_of records)
      → IsAsking w limits calls opening lines readings records sent → Told (log_of w calls lines) readings records sent
  asking_told lines readings records sent legal a =
      let s : Calls = a.after in
      let g : TraceLog = log_from w calls empty_log a.past in
      let held = turns_hold exec w limits start opening calls first s a.past empty_log a.runs first_holds in
      let cut = cut_log s a.last a.taken g a.cut in
      let now : TraceLog = record g { run = cut.0 } in
      let logged : log_of w calls lines ≡ now = ap (log_of w calls) a.all ∙ log_append w calls empty_log a.past a.last ∙ cut.1 in
      let L : List Record → Type 0 = λ v. Legal exec w.reports start (exchanges_of v) in
      let kept : Keeps s now s.sent now.flight (lines_in w calls now) = keeps s g (subst L a.kept legal) held.told held.told.flies in
      let n : g.taken ≡ length s.readings = held.told.taken in
      let fits : g.taken ≤ length s.readings = omega (arith, n) in
      let all : length s.readings ≤ g.taken = omega (arith, n) in
      let front : take g.taken readings ≡ s.readings = ap (take g.taken) a.read ∙ take-append-le g.taken s.readings a.taken fits ∙ take_all g.taken s.readings all in
      let long : length readings ≡ length s.readings + length a.taken = ap (λ (v : List ℕ). length v) a.read ∙ length-append s.readings a.taken in
      let few : length a.taken ≤ 1 = cut.2 in
      let least : g.taken ≤ length readings = omega (arith, n, long) in
      let most : length readings ≤ g.taken + 1 = omega (arith, n, long, few) in
      let H : List ℕ → Type 0 = λ v. Headline (terms_of exec w limits start opening) v (asked_along opening (exchanges_of s.records) (asked_by (lines_in w calls now))) (lines_in w calls now) (journal_of now s.records s.sent) in
      let R : List Record → Type 0 = λ v. Told now readings v s.sent in
      let S : Option Sent → Type 0 = λ o. Told now readings records o in
      let G : TraceLog → Type 0 = λ v. Told v readings records sent in
      subst G (sym logged) (subst S (sym a.flies) (subst R (sym a.kept) (subst H (sym front) kept, least, most)))

  pub word_headline : (picks : List Side) (trace : List TraceLine) (readings : List ℕ) (records : List Record) (sent : Option Sent) (executed : List Exchange)
      → WordRun exec w limits start opening calls picks trace readings records sent executed → Legal exec w.reports start (exchanges_of records)
      → WordHeadline exec w limits start opening calls trace readings records sent
  word_headline picks trace readings records sent executed run legal =
      let t = asking_told (filter (asked_line w.kind) trace) readings records sent legal run.asking in
      record { kept = t.0; more = (t.1, t.2) }
