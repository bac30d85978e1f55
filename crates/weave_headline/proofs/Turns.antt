-- The log of a trace follows the calls of its runs.
use Rattle.std.proofs.Common.{◌≡◌, ◌≤◌, ◌<◌, ℕ, ◌+◌, Bool, true, false, cond, if◌then◌else◌, List, [], ◌∷◌, ◌++◌, length, refl, sym, ap, ◌∙◌, subst, arith}
use Rattle.std.specs.Prelude.{◌&&◌, nat_lt, nat_le, Option, Some, None}
use Rattle.std.specs.List.{AllByRecursion, slice_get}
use Rattle.std.proofs.lemmas.Bool.{leb-false, leb-true}
use Rattle.std.proofs.lemmas.Bool.Decides.{nat_tests}
use Rattle.std.proofs.lemmas.List.{append_assoc, append-nil, length-append}
use Rattle.std.proofs.lemmas.Option.{same_Some}
use Rattle.pcc_history.specs.Devices.{Device}
use Rattle.rate_limit.specs.declared.Limits.{Limits}
use Rattle.rate_limit.specs.RateLimits.{earliest_of}
use Rattle.pcc_journal.specs.declared.reserved.TheConstants.{MAX_ITEMS}
use Rattle.pcc_journal.specs.declared.note.Note.{Note}
use Rattle.pcc_journal.specs.declared.record.Record.{Record}
use Rattle.pcc_journal.specs.Records.{times_of}
use Rattle.pcc_journal.specs.Events.{NotedPending, post_count}
use Rattle.pcc_steps.specs.declared.wiring.Wiring.{Wiring}
use Rattle.pcc_steps.specs.declared.wiring.Action.{Action}
use Rattle.pcc_steps.specs.declared.wiring.Action.TheVariants.{Load, Store, Swap}
use Rattle.pcc_steps.specs.Runs.{AskEnd, Run, drains, ends, executes, loads, look_run, stores, swaps}
use Rattle.channel_core.specs.Refusals as refusals
use Rattle.channel_core.specs.declared.answers.CallRefusal.TheVariants as refusal
use Rattle.channel_core.specs.Sendings.{count_flying, given_up_after as given_up, is_late, record_of}
use Rattle.channel_core.specs.declared.sent.Sent.{Sent}
use Rattle.channel_plain.specs.declared.trace.Asked.{Asked}
use Rattle.channel_plain.specs.declared.trace.TraceEnd.{TraceEnd}
use Rattle.channel_plain.specs.declared.trace.TraceEnd.TheVariants as end
use Rattle.channel_plain.specs.declared.trace.TraceLine.{TraceLine}
use Rattle.channel_plain.specs.Picks.{drained_end, given_up_end, refused_end, sent_by}
use Rattle.channel_plain.specs.WordRuns.{Calls, IsRun, Serves, Turn, Turns, Walks, begins, delays, end_call, gives_up, goes_on, goes_on_if, idles, block_after, looks_on, more, next_of, none, posts_call, reading_at, refusal_at, refuses, replied, rest_of, sends, take_reading, takes}
use Rattle.channel_turns.specs.Replies.{Reply, Done, BadCode, TooLong, JournalFull, StillPending, TooSoon, TimedOut}
use Rattle.channel_headline.specs.After.{After}
use Rattle.channel_headline.specs.Causes.{HasCause, IsBlocked, IsFull}
use Rattle.channel_headline.specs.Headline.{pending_count}
use Rattle.channel_headline.specs.Asked.{Replied}
use Rattle.channel_headline.specs.Lines.{CallLine, HasReply, is_post, is_too_soon}
use Rattle.weave_headline.specs.TraceLog.{TraceLog, drained_by, ended_with, given_up_after, line_of, log_end, log_from, output_by, output_of, rest_after, step_in, with_line}
use Rattle.channel_headline.proofs.Points.{ends_last}
use Rattle.weave_headline.proofs.Points.{IsLost, Point, T, answered, drained, lost, lost_note, note_of, now_past, record_for, refused, too_soon}

-- ---- the log of the steps of a run

step_is : {E : Type 0} (run : Run E) (a : Action) (l : TraceLine) → next_of run ≡ Some a → step_in a l ≡ l ∷ []
step_is (ends e) a l h = absurd cc
step_is (loads p k) a l h = ap (λ (x : Action). step_in x l) (sym (same_Some (Load p) a h))
step_is (stores p u k) a l h = ap (λ (x : Action). step_in x l) (sym (same_Some (Store p u) a h))
step_is (swaps p u k) a l h = ap (λ (x : Action). step_in x l) (sym (same_Some (Swap p u) a h))
step_is (executes c s k) a l h = absurd cc

rest_append : (run : Run AskEnd) (xs ys : List TraceLine) → rest_after run (xs ++ ys) ≡ rest_after (rest_after run xs) ys
rest_append run [] ys = refl
rest_append run (x ∷ xs) ys = rest_append (rest_of run x.value) xs ys

walk_rest : (run rest : Run AskEnd) (ls : List TraceLine) → Walks run ls rest → rest_after run ls ≡ rest
walk_rest run rest [] h = h
walk_rest run rest (l ∷ ls) h = walk_rest (rest_of run l.value) rest ls h.2

-- what the steps of a whole look have drained
look_output : (w : Wiring) (ls : List TraceLine) (l : TraceLine) (error : Bool) (block : List ℕ) → IsRun (look_run w) ls l (drains error block)
    → output_of w (ls ++ l ∷ []) ≡ replied w block
look_output w ls l error block h =
    ap (output_by w) (rest_append (look_run w) ls (l ∷ []) ∙ ap (λ (r : Run AskEnd). rest_of r l.value) (walk_rest (look_run w) h.rest ls h.walks) ∙ h.ends)

-- a command that was given up after some looks is late
looked_for : (n : ℕ) → 0 < n → nat_lt 0 n ≡ true
looked_for n some = grind (arith, nat_tests)

abbrev rested : TraceLog → TraceLog
rested g = record g { run = [] }

abbrev with_run : TraceLog → List TraceLine → TraceLog
with_run g ls = record g { run = ls }

-- nothing refuses a call
passes_by : (bad long full : Bool) (code len room : ℕ)
    → refused_end (cond bad (Some (refusal.BadCode code)) (cond long (Some (refusal.TooLong len room)) (cond full (Some refusal.JournalFull) None))) ≡ None
    → (cond bad (Some (refusal.BadCode code)) (cond long (Some (refusal.TooLong len room)) None) ≡ None) × (full ≡ false)
passes_by true long full code len room h = absurd cc
passes_by false true full code len room h = absurd cc
passes_by false false true code len room h = absurd cc
passes_by false false false code len room h = (refl, refl)

module _ (w : Wiring) (calls : List Asked) where
  pub log_append : (g : TraceLog) (xs ys : List TraceLine) → log_from w calls g (xs ++ ys) ≡ log_from w calls (log_from w calls g xs) ys
  log_append g [] ys = refl
  log_append g (x ∷ xs) ys = log_append (log_end w calls x.end x g) xs ys

  pub log_walk : {E : Type 0} (run rest : Run E) (ls : List TraceLine) (g : TraceLog) → Walks run ls rest → log_from w calls g ls ≡ with_run g (g.run ++ ls)
  log_walk run rest [] g h = ap (with_run g) (sym (append-nil g.run))
  log_walk run rest (l ∷ ls) g h =
      let one : TraceLog = with_run g (g.run ++ l ∷ []) in
      let first : log_end w calls l.end l g ≡ one = ap (λ (e : TraceEnd). log_end w calls e l g) h.1 ∙ ap (λ (x : List TraceLine). with_run g (g.run ++ x)) (step_is run l.action l h.0) in
      ap (λ (x : TraceLog). log_from w calls x ls) first ∙ log_walk (rest_of run l.value) rest ls one h.2 ∙ ap (with_run g) (append_assoc g.run (l ∷ []) ls)

  -- a whole run, from rest
  log_run : {E : Type 0} (run : Run E) (ls : List TraceLine) (l : TraceLine) (x : E) (e : TraceEnd) (g : TraceLog) → IsRun run ls l x → l.end ≡ e → g.run ≡ []
      → log_from w calls g (ls ++ l ∷ []) ≡ log_end w calls e l (with_run g ls)
  log_run run ls l x e g h is rest =
      log_append g ls (l ∷ []) ∙ ap (λ (v : TraceLog). log_end w calls l.end l v) (log_walk run h.rest ls g h.walks ∙ ap (λ (v : List TraceLine). with_run g (v ++ ls)) rest)
      ∙ ap (λ (v : TraceEnd). log_end w calls v l (with_run g ls)) is

module _ (exec : Device) (w : Wiring) (limits : Limits) (start opening : List ℕ) (calls : List Asked) where
  abbrev At : List ℕ → List ℕ → List Record → List Note → Option NotedPending → List CallLine → Type 0
  At = Point exec w limits start opening

  abbrev noted_sent : Sent → Note → NotedPending
  noted_sent p n = record { command = p.command; note = n }

  abbrev pub Passes : Asked → Type 0
  Passes c = refusals.refusal_of w.kind w.room c.code (length c.bytes) 0 ≡ None

  -- nothing is in flight; or a command that was given up; or that of the call that is begun, which was posted at the last reading
  pub data Flies (s : Calls) (g : TraceLog) : Type 0 where
    quiet : s.sent ≡ None → g.flight ≡ None → g.unended ≡ false → At s.space s.readings s.records g.notes None g.calls → Flies s g
    late : (p : Sent) (n : Note) → s.sent ≡ Some p → is_late p ≡ true → g.flight ≡ Some n → g.unended ≡ false
        → At s.space s.readings s.records g.notes (Some (noted_sent p n)) g.calls → Flies s g
    owned : (c : Asked) (rs : List ℕ) (r : ℕ) → s.sent ≡ Some (sent_by c s.space (reading_at rs r)) → g.flight ≡ Some (note_of (length rs) 0 0)
        → g.unended ≡ true → s.readings ≡ rs ++ r ∷ []
        → s.begun ≡ true → slice_get calls s.ended ≡ Some c → Passes c → length s.records < MAX_ITEMS → earliest_of limits (times_of s.records) ≤ r
        → At s.space rs s.records g.notes None g.calls → Flies s g

  pub record Holds (s : Calls) (g : TraceLog) : Type 0 where
    pub ended : length g.calls ≡ s.ended
    pub taken : g.taken ≡ length s.readings
    pub replies : AllByRecursion (λ l. HasReply l.reply) g.calls
    pub serves : s.begun ≡ true → (c : Asked) → slice_get calls s.ended ≡ Some c
        → Passes c × (g.unended ≡ false → length s.records + count_flying s.sent < MAX_ITEMS)
    pub flies : Flies s g

  -- ---- a call is served

  abbrev Free : Calls → TraceLog → Asked → Type 0
  Free s g d = Passes d × (g.unended ≡ false → length s.records + count_flying s.sent < MAX_ITEMS)

  served : (s s' : Calls) (c : Asked) (g : TraceLog) → Serves w limits calls s c s' → Holds s g
      → Holds s' g × (s'.begun ≡ true) × (slice_get calls s'.ended ≡ Some c)
  served s s' c g (goes_on _ _ b at) h = (h, b, at)
  served s s' c g (begins _ _ b at free) h =
      (record { ended = h.ended; taken = h.taken; replies = h.replies; serves = λ begun d at'. subst (Free s g) (same_Some c d (sym at ∙ at')) fits; flies = on h.flies }, refl, at)
    where
      fits : Free s g c
      fits =
          let n : ℕ = length s.records + count_flying s.sent in
          let p = passes_by (refusals.has_byte_codes w.kind && nat_lt 255 c.code) (nat_lt w.room (length c.bytes)) (nat_le MAX_ITEMS n) c.code (length c.bytes) w.room free in
          (p.0, λ un. leb-false MAX_ITEMS n p.1)

      not_both : (x : Bool) → x ≡ false → x ≡ true → ⊥
      not_both x e f = cc

      on : Flies s g → Flies (record s { begun = true; looks = 0 }) g
      on (quiet a f u p) = quiet a f u p
      on (late p n a l f u q) = late p n a l f u q
      on (owned d rs r a f u e begun at' pass room le p) = absurd (not_both s.begun b begun)

  -- ---- a call ends with a refusal

  next_call : (s : Calls) (g : TraceLog) (c : Asked) → length g.calls ≡ s.ended → slice_get calls s.ended ≡ Some c → slice_get calls (length g.calls) ≡ Some c
  next_call s g c e at = ap (λ (n : ℕ). slice_get calls n) e ∙ at

  -- a call ends with a reply, in a log
  abbrev closed : Asked → Reply → ℕ → TraceLog → TraceLog
  closed c reply number g = record g { unended = false; calls = g.calls ++ line_of c (Some (Replied reply)) number ∷ []; run = [] }

  ended_is : (c : Asked) (reply : Reply) (number : ℕ) (g : TraceLog) → slice_get calls (length g.calls) ≡ Some c
      → rested (ended_with w calls reply number g) ≡ closed c reply number g
  ended_is c reply number g at = ap (λ (o : Option Asked). rested (with_line o reply number g)) at

  one_longer : (ls : List CallLine) (l : CallLine) (n : ℕ) → length ls ≡ n → length (ls ++ l ∷ []) ≡ n + 1
  one_longer ls l n e = length-append ls (l ∷ []) ∙ ap (λ (m : ℕ). m + 1) e

  Caused : Calls → TraceLog → Asked → Reply → Type 0
  Caused s g c reply = (pn : Option NotedPending) → pending_count pn ≡ count_flying s.sent → (h : At s.space s.readings s.records g.notes pn g.calls)
      → HasCause (T exec w limits start opening) s.readings h.events g.calls (line_of c (Some (Replied reply)) 0) (Some (Replied reply))

  ends_refused : (s : Calls) (g : TraceLog) (c : Asked) (reply : Reply) → slice_get calls s.ended ≡ Some c → g.unended ≡ false → is_post reply ≡ false
      → is_too_soon reply ≡ false → Caused s g c reply
      → Holds s g → Holds (end_call s) (rested (ended_with w calls reply 0 g))
  unfolding Caused
  ends_refused s g c reply at un unposted unsoon cause h =
      subst (Holds (end_call s)) (sym (ended_is c reply 0 g (next_call s g c h.ended at)))
      (record { ended = one_longer g.calls (line_of c (Some (Replied reply)) 0) s.ended h.ended; taken = h.taken; replies = ends_last g.calls (line_of c (Some (Replied reply)) 0) h.replies tt; serves = λ begun. absurd (no begun); flies = on h.flies })
    where
      no : false ≡ true → ⊥
      no e = cc

      not_both : (x : Bool) → x ≡ false → x ≡ true → ⊥
      not_both x e f = cc

      on : Flies s g → Flies (end_call s) (closed c reply 0 g)
      on (quiet a f u p) = quiet a f refl (refused exec w limits start opening s.space s.readings s.records g.notes None g.calls (line_of c (Some (Replied reply)) 0) unposted unsoon p (cause None (sym (ap count_flying a)) p))
      on (late p n a k f u q) = late p n a k f refl
          (refused exec w limits start opening s.space s.readings s.records g.notes (Some (noted_sent p n)) g.calls (line_of c (Some (Replied reply)) 0) unposted unsoon q (cause (Some (noted_sent p n)) (sym (ap count_flying a)) q))
      on (owned d rs r a f u e begun at' pass room le p) = absurd (not_both g.unended un u)

  -- no call that is posted is left out
  settled : (s : Calls) (g : TraceLog) → s.begun ≡ false → Flies s g → g.unended ≡ false
  settled s g b (quiet a f u p) = u
  settled s g b (late p n a l f u q) = u
  settled s g b (owned d rs r a f u e begun at pass room le p) = absurd (not_both s.begun b begun)
    where
      not_both : (x : Bool) → x ≡ false → x ≡ true → ⊥
      not_both x e f = cc

  refused_by : (s : Calls) (g : TraceLog) (c : Asked) (e : TraceEnd) (l : TraceLine) (bad long full : Bool) → slice_get calls s.ended ≡ Some c
      → g.unended ≡ false
      → refusals.refusal_of w.kind w.room c.code (length c.bytes) 0 ≡ cond bad (Some (refusal.BadCode c.code)) (cond long (Some (refusal.TooLong (length c.bytes) w.room)) None)
      → (full ≡ true → MAX_ITEMS ≤ length s.records + count_flying s.sent)
      → refused_end (cond bad (Some (refusal.BadCode c.code)) (cond long (Some (refusal.TooLong (length c.bytes) w.room)) (cond full (Some refusal.JournalFull) None))) ≡ Some e
      → Holds s g → Holds (end_call s) (log_end w calls e l g)
  unfolding Caused
  refused_by s g c e l true long full at un by most is h =
      subst (λ (x : TraceEnd). Holds (end_call s) (log_end w calls x l g)) (same_Some (end.BadCode c.code) e is) (ends_refused s g c (BadCode c.code) at un refl refl (λ pn n p. by) h)
  refused_by s g c e l false true full at un by most is h =
      subst (λ (x : TraceEnd). Holds (end_call s) (log_end w calls x l g)) (same_Some (end.TooLong (length c.bytes) w.room) e is)
      (ends_refused s g c (TooLong (length c.bytes) w.room) at un refl refl (λ pn n p. by) h)
  refused_by s g c e l false false true at un by most is h =
      subst (λ (x : TraceEnd). Holds (end_call s) (log_end w calls x l g)) (same_Some end.JournalFull e is) (ends_refused s g c JournalFull at un refl refl (λ pn n p. (by, cause pn n p)) h)
    where
      cause : (pn : Option NotedPending) → pending_count pn ≡ count_flying s.sent → (p : At s.space s.readings s.records g.notes pn g.calls)
          → IsFull p.events g.calls (line_of c (Some (Replied JournalFull)) 0)
      cause pn n p =
          let at_least : MAX_ITEMS ≤ length s.records + count_flying s.sent = most refl in
          let posts : post_count p.events ≡ length s.records + pending_count pn = p.posts in
          let few : post_count p.events ≤ MAX_ITEMS = p.few in
          record { moment = now_past exec w limits start opening s.space s.readings s.records g.notes pn g.calls (line_of c (Some (Replied JournalFull)) 0) p; full = omega (arith, at_least, posts, few, n) }
  refused_by s g c e l false false false at un by most is h = absurd cc

  -- ---- the ends of runs

  abbrev soon_reply : Calls → ℕ → Reply
  soon_reply s r = TooSoon r (earliest_of limits (times_of s.records))

  abbrev one_taken : TraceLog → TraceLog
  one_taken g = record g { taken = g.taken + 1 }

  soon_holds : (s : Calls) (g : TraceLog) (c : Asked) (r : ℕ) (l : TraceLine) → Holds s g → s.begun ≡ true → slice_get calls s.ended ≡ Some c → s.sent ≡ None
      → r < earliest_of limits (times_of s.records)
      → Holds (end_call (take_reading s r)) (log_end w calls (end.TooSoon r (earliest_of limits (times_of s.records))) l g)
  soon_holds s g c r l h b at free below =
      subst (Holds (end_call (take_reading s r))) (sym (ended_is c (soon_reply s r) g.taken (one_taken g) (next_call s g c h.ended at)))
      (record {
        ended = one_longer g.calls (line_of c (Some (Replied (soon_reply s r))) g.taken) s.ended h.ended;
        taken = ap (λ (m : ℕ). m + 1) h.taken ∙ sym (length-append s.readings (r ∷ []));
        replies = ends_last g.calls (line_of c (Some (Replied (soon_reply s r))) g.taken) h.replies tt;
        serves = λ begun. absurd (no begun);
        flies = on h.flies;
      })
    where
      no : false ≡ true → ⊥
      no e = cc

      none_some : (o : Option Sent) (p : Sent) → o ≡ None → o ≡ Some p → ⊥
      none_some o p e f = cc

      on : Flies s g → Flies (end_call (take_reading s r)) (closed c (soon_reply s r) g.taken (one_taken g))
      on (quiet a f u p) = quiet a f refl (too_soon exec w limits start opening s.space s.readings s.records g.notes g.calls (line_of c (Some (Replied (soon_reply s r))) g.taken) r refl (λ before. refl) h.taken (h.serves b c at).0 below p)
      on (late p n a x f u q) = absurd (none_some s.sent p free a)
      on (owned d rs q a f u e begun at' pass room le p) = absurd (none_some s.sent (sent_by d s.space (reading_at rs q)) free a)

  posted_holds : (s : Calls) (g : TraceLog) (c : Asked) (r : ℕ) (l : TraceLine) → Holds s g → s.begun ≡ true → slice_get calls s.ended ≡ Some c
      → s.sent ≡ None → earliest_of limits (times_of s.records) ≤ r
      → Holds (record (take_reading s r) { sent = Some (sent_by c s.space (reading_at s.readings r)); block = block_after w c s.block; looks = 0 }) (log_end w calls end.Posted l g)
  posted_holds s g c r l h b at free le =
      record {
        ended = h.ended;
        taken = ap (λ (m : ℕ). m + 1) h.taken ∙ sym (length-append s.readings (r ∷ []));
        replies = h.replies;
        serves = λ begun d at'. ((h.serves b d at').0, λ un. absurd (no un));
        flies = on h.flies;
      }
    where
      no : true ≡ false → ⊥
      no e = cc

      none_some : (o : Option Sent) (p : Sent) → o ≡ None → o ≡ Some p → ⊥
      none_some o p e f = cc

      room : g.unended ≡ false → length s.records < MAX_ITEMS
      room u = let lt : length s.records + count_flying s.sent < MAX_ITEMS = (h.serves b c at).1 u in omega (arith, lt)

      on : Flies s g → Flies (record (take_reading s r) { sent = Some (sent_by c s.space (reading_at s.readings r)); block = block_after w c s.block; looks = 0 }) (log_end w calls end.Posted l g)
      on (quiet a f u p) = owned c s.readings r refl (ap (λ (n : ℕ). Some (note_of n 0 0)) h.taken) refl refl b at (h.serves b c at).0 (room u) le p
      on (late p n a x f u q) = absurd (none_some s.sent p free a)
      on (owned d rs q a f u e begun at' pass few lo p) = absurd (none_some s.sent (sent_by d s.space (reading_at rs q)) free a)

  clear_holds : (s : Calls) (g : TraceLog) (looks n : ℕ) (l : TraceLine) → Holds s g → Holds (record s { looks = looks }) (log_end w calls (end.Clear n) l g)
  clear_holds s g looks n l h =
      record { ended = h.ended; taken = h.taken; replies = h.replies; serves = h.serves; flies = on h.flies }
    where
      on : Flies s g → Flies (record s { looks = looks }) (log_end w calls (end.Clear n) l g)
      on (quiet a f u p) = quiet a f u p
      on (late p m a x f u q) = late p m a x f u q
      on (owned d rs q a f u e begun at' pass few lo p) = owned d rs q a f u e begun at' pass few lo p

  -- ---- a command is given up

  -- what is left of the calls when a look is the last one, and the log of that
  abbrev GivenUp : Calls → TraceLog → Asked → ℕ → TraceLine → Sent → Type 0
  GivenUp s g c looks l p = Holds (end_call (record s { looks = looks; sent = given_up c.polls (Some p) })) (log_end w calls (given_up_end (is_late p) c.polls) l g)

  -- it is that of the call
  lost_holds : (s : Calls) (g : TraceLog) (c : Asked) (rs : List ℕ) (r looks : ℕ) (l : TraceLine) → Holds s g → slice_get calls s.ended ≡ Some c
      → g.flight ≡ Some (note_of (length rs) 0 0) → s.readings ≡ rs ++ r ∷ []
      → Passes c → length s.records < MAX_ITEMS → earliest_of limits (times_of s.records) ≤ r → At s.space rs s.records g.notes None g.calls → 0 < c.polls
      → GivenUp s g c looks l (sent_by c s.space (reading_at rs r))
  lost_holds s g c rs r looks l h at f e pass room le p some =
      let k : CallLine = line_of c (Some (Replied (TimedOut c.polls))) 0 in
      let up : TraceLog = record g { flight = Some (note_of (length rs) 0 c.polls) } in
      let is : IsLost exec w limits start opening k c.polls = record { posted = refl; unsoon = refl; matches = λ before post number. (((refl, refl, refl, refl), refl, refl), tt); cause = λ qs es ls ok. ok } in
      let given : Sent = record (sent_by c s.space (reading_at rs r)) { note = record (sent_by c s.space (reading_at rs r)).note { looks = c.polls } } in
      let end_state : Calls = end_call (record s { looks = looks; sent = Some given }) in
      let P : List ℕ → Type 0 = λ v. At s.space v s.records g.notes (Some (lost_note given.command (length rs) c.polls)) (g.calls ++ k ∷ []) in
      let point : At s.space (rs ++ r ∷ []) s.records g.notes (Some (lost_note given.command (length rs) c.polls)) (g.calls ++ k ∷ []) =
      lost exec w limits start opening s.space rs s.records g.notes g.calls k c.polls r is pass room le p in
      let noted : log_end w calls (end.TimedOut c.polls) l g ≡ closed c (TimedOut c.polls) 0 up =
      ap (λ (o : Option Note). rested (ended_with w calls (TimedOut c.polls) 0 (record g { flight = given_up_after c.polls o }))) f ∙ ended_is c (TimedOut c.polls) 0 up (next_call s g c h.ended at) in
      subst (Holds end_state) (sym noted) (record {
        ended = one_longer g.calls k s.ended h.ended;
        taken = h.taken;
        replies = ends_last g.calls k h.replies tt;
        serves = λ begun. absurd (no begun);
        flies = late given (note_of (length rs) 0 c.polls) refl (looked_for c.polls some) refl refl (subst P (sym e) point);
      })
    where
      no : false ≡ true → ⊥
      no e = cc

  -- it is an earlier one
  blocked_holds : (s : Calls) (g : TraceLog) (c : Asked) (p : Sent) (n : Note) (looks : ℕ) (l : TraceLine) → Holds s g → s.begun ≡ true
      → slice_get calls s.ended ≡ Some c → s.sent ≡ Some p → is_late p ≡ true
      → g.flight ≡ Some n → g.unended ≡ false → At s.space s.readings s.records g.notes (Some (noted_sent p n)) g.calls → GivenUp s g c looks l p
  unfolding Caused
  blocked_holds s g c p n looks l h b at a x f u q =
      let up : Calls = record s { looks = looks; sent = Some p } in
      let same : count_flying s.sent ≡ 1 = ap count_flying a in
      let held : Holds up g = record {
        ended = h.ended;
        taken = h.taken;
        replies = h.replies;
        serves = λ begun d at'. ((h.serves b d at').0, λ v. subst (λ (m : ℕ). length s.records + m < MAX_ITEMS) same ((h.serves b d at').1 v));
        flies = late p n refl x f u q;
      } in
      let kept : given_up c.polls (Some p) ≡ Some p = ap (λ (b : Bool). Some (record p { note = record p.note { looks = if b then p.note.looks else c.polls } })) x in
      let G : Option Sent × Bool → Type 0 = λ z. Holds (end_call (record s { looks = looks; sent = z.0 })) (log_end w calls (given_up_end z.1 c.polls) l g) in
      subst G (λ i. (sym kept i, sym x i)) (ends_refused up g c (StillPending c.polls) at u refl refl (λ pn m y. ((h.serves b c at).0, refl, cause pn m y)) held)
    where
      cause : (pn : Option NotedPending) → pending_count pn ≡ 1 → (y : At s.space s.readings s.records g.notes pn g.calls)
          → IsBlocked opening y.events g.calls (line_of c (Some (Replied (StillPending c.polls))) 0)
      cause None m y = absurd cc
      cause (Some z) m y = record { moment = now_past exec w limits start opening s.space s.readings s.records g.notes (Some z) g.calls (line_of c (Some (Replied (StillPending c.polls))) 0) y; post = z.command.post; flies = ap (λ (v : After). v.flight) y.after }

  given_up_holds : (s : Calls) (g : TraceLog) (c : Asked) (p : Sent) (looks : ℕ) (l : TraceLine) → Holds s g → s.begun ≡ true
      → slice_get calls s.ended ≡ Some c → s.sent ≡ Some p → 0 < c.polls → Flies s g → GivenUp s g c looks l p
  given_up_holds s g c p looks l h b at es some (quiet a f u q) = absurd (none_some s.sent p a es)
    where
      none_some : (o : Option Sent) (p : Sent) → o ≡ None → o ≡ Some p → ⊥
      none_some o p e f = cc
  given_up_holds s g c p looks l h b at es some (late p' n a x f u q) =
      let same : p' ≡ p = same_Some p' p (sym a ∙ es) in
      subst (GivenUp s g c looks l) same (blocked_holds s g c p' n looks l h b at a x f u q)
  given_up_holds s g c p looks l h b at es some (owned d rs r a f u e begun at' pass room le q) =
      let same : sent_by d s.space (reading_at rs r) ≡ p = same_Some (sent_by d s.space (reading_at rs r)) p (sym a ∙ es) in
      let G : Asked → Type 0 = λ x. GivenUp s g x looks l (sent_by d s.space (reading_at rs r)) in
      let own : d ≡ c = same_Some d c (sym at' ∙ at) in
      subst (GivenUp s g c looks l) same (subst G own (lost_holds s g d rs r looks l h at' f e pass room le q (subst (λ (x : Asked). 0 < x.polls) (sym own) some)))

  -- ---- a command completes

  -- whether it was given up before
  abbrev DrainsIf : Bool → Calls → TraceLog → ℕ → Bool → List ℕ → List ℕ → TraceLine → Sent → Type 0
  DrainsIf lost s g r error block output l p =
      Holds (goes_on_if lost (record (take_reading s r) { sent = None; block = block; space = output; records = s.records ++ record_for p.command error output r lost ∷ [] })) (log_end w calls (drained_end lost error) l g)

  abbrev Drains : Calls → TraceLog → ℕ → Bool → List ℕ → List ℕ → TraceLine → Sent → Type 0
  Drains s g r error block output l p = DrainsIf (is_late p) s g r error block output l p

  -- it is that of the call
  done_holds : (s : Calls) (g : TraceLog) (c : Asked) (rs : List ℕ) (r d : ℕ) (error : Bool) (block output : List ℕ) (l : TraceLine) → Holds s g
      → output_of w (g.run ++ l ∷ []) ≡ output → slice_get calls s.ended ≡ Some c
      → g.flight ≡ Some (note_of (length rs) 0 0) → s.readings ≡ rs ++ r ∷ [] → Passes c → length s.records < MAX_ITEMS
      → earliest_of limits (times_of s.records) ≤ r → At s.space rs s.records g.notes None g.calls
      → Drains s g d error block output l (sent_by c s.space (reading_at rs r))
  done_holds s g c rs r d error block output l h out at f e pass room le p =
      let x : Record = record_of (sent_by c s.space (reading_at rs r)) error output d in
      let k : CallLine = line_of c (Some (Replied (Done error output))) 0 in
      let noted : List Note = g.notes ++ note_of (length rs) g.taken 0 ∷ [] in
      let mid : TraceLog = record g { taken = g.taken + 1; notes = noted; flight = None } in
      let end_state : Calls = end_call (record (take_reading s d) { sent = None; block = block; space = output; records = s.records ++ x ∷ [] }) in
      let logged : log_end w calls (end.Done error) l g ≡ closed c (Done error output) 0 mid =
      ap (λ (v : List ℕ). rested (ended_with w calls (Done error v) 0 (drained_by g.flight g))) out
      ∙ ap (λ (o : Option Note). rested (ended_with w calls (Done error output) 0 (drained_by o g))) f
      ∙ ended_is c (Done error output) 0 mid (next_call s g c h.ended at) in
      let long : length s.readings ≡ length rs + 1 = ap (λ (v : List ℕ). length v) e ∙ length-append rs (r ∷ []) in
      let number : length rs + 1 ≡ g.taken = sym (h.taken ∙ long) in
      let all : rs ++ r ∷ d ∷ [] ≡ s.readings ++ d ∷ [] = sym (append_assoc rs (r ∷ []) (d ∷ [])) ∙ ap (λ (v : List ℕ). v ++ d ∷ []) (sym e) in
      let P : List ℕ → Type 0 = λ v. At output v (s.records ++ x ∷ []) noted None (g.calls ++ k ∷ []) in
      let N : ℕ → Type 0 = λ m. At output (rs ++ r ∷ d ∷ []) (s.records ++ x ∷ []) (g.notes ++ note_of (length rs) m 0 ∷ []) None (g.calls ++ k ∷ []) in
      let point : At output (rs ++ r ∷ d ∷ []) (s.records ++ x ∷ []) (g.notes ++ note_of (length rs) (length rs + 1) 0 ∷ []) None (g.calls ++ k ∷ []) =
      answered exec w limits start opening s.space rs s.records g.notes g.calls k error output r d refl (λ before. refl) pass room le p in
      subst (Holds end_state) (sym logged) (record {
        ended = one_longer g.calls k s.ended h.ended;
        taken = ap (λ (m : ℕ). m + 1) h.taken ∙ sym (length-append s.readings (d ∷ []));
        replies = ends_last g.calls k h.replies tt;
        serves = λ begun. absurd (no begun);
        flies = quiet refl refl refl (subst P all (subst N number point));
      })
    where
      no : false ≡ true → ⊥
      no e = cc

  -- it is one that was given up
  late_holds : (s : Calls) (g : TraceLog) (p : Sent) (n : Note) (d : ℕ) (error : Bool) (block output : List ℕ) (l : TraceLine) → Holds s g → s.begun ≡ true
      → s.sent ≡ Some p → is_late p ≡ true → g.flight ≡ Some n → g.unended ≡ false
      → At s.space s.readings s.records g.notes (Some (noted_sent p n)) g.calls → Drains s g d error block output l p
  late_holds s g p n d error block output l h b a lost f u q =
      let x : Record = record_for p.command error output d true in
      let noted : List Note = g.notes ++ record n { done_at = g.taken } ∷ [] in
      let mid : TraceLog = record g { taken = g.taken + 1; notes = noted; flight = None; run = [] } in
      let end_state : Calls = record (take_reading s d) { sent = None; block = block; space = output; records = s.records ++ x ∷ [] } in
      let logged : log_end w calls (end.Late error) l g ≡ mid = ap (λ (o : Option Note). rested (drained_by o g)) f in
      let N : ℕ → Type 0 = λ m. At output (s.readings ++ d ∷ []) (s.records ++ x ∷ []) (g.notes ++ record n { done_at = m } ∷ []) None g.calls in
      let point : At output (s.readings ++ d ∷ []) (s.records ++ x ∷ []) (g.notes ++ record n { done_at = length s.readings } ∷ []) None g.calls =
      drained exec w limits start opening s.space s.readings s.records g.notes g.calls (noted_sent p n) error output d q in
      let more : length (s.records ++ x ∷ []) ≡ length s.records + 1 = length-append s.records (x ∷ []) in
      subst (λ (z : Bool). DrainsIf z s g d error block output l p) (sym lost) (subst (Holds end_state) (sym logged) (record {
        ended = h.ended;
        taken = ap (λ (m : ℕ). m + 1) h.taken ∙ sym (length-append s.readings (d ∷ []));
        replies = h.replies;
        serves = λ begun c at. ((h.serves b c at).0, λ v. let old : length s.records + 1 < MAX_ITEMS = subst (λ (o : Option Sent). length s.records + count_flying o < MAX_ITEMS) a ((h.serves b c at).1 u) in omega (arith, more, old));
        flies = quiet refl refl u (subst N (sym h.taken) point);
      }))

  drained_holds : (s : Calls) (g : TraceLog) (c : Asked) (p : Sent) (d : ℕ) (error : Bool) (block output : List ℕ) (l : TraceLine) → Holds s g
      → s.begun ≡ true → output_of w (g.run ++ l ∷ []) ≡ output → slice_get calls s.ended ≡ Some c
      → s.sent ≡ Some p → Flies s g → Drains s g d error block output l p
  drained_holds s g c p d error block output l h b out at es (quiet a f u q) = absurd (none_some s.sent p a es)
    where
      none_some : (o : Option Sent) (p : Sent) → o ≡ None → o ≡ Some p → ⊥
      none_some o p e f = cc
  drained_holds s g c p d error block output l h b out at es (late p' n a x f u q) =
      let same : p' ≡ p = same_Some p' p (sym a ∙ es) in
      subst (Drains s g d error block output l) same (late_holds s g p' n d error block output l h b a x f u q)
  drained_holds s g c p d error block output l h b out at es (owned z rs r a f u e begun at' pass room le q) =
      let same : sent_by z s.space (reading_at rs r) ≡ p = same_Some (sent_by z s.space (reading_at rs r)) p (sym a ∙ es) in
      subst (Drains s g d error block output l) same (done_holds s g z rs r d error block output l h out at' f e pass room le q)

  -- ---- a turn, and turns

  refuse_holds : (s : Calls) (g : TraceLog) (c : Asked) (e : TraceEnd) (l : TraceLine) → Holds s g → s.begun ≡ false → slice_get calls s.ended ≡ Some c
      → refusal_at w c s ≡ Some e → Holds (end_call s) (log_end w calls e l g)
  refuse_holds s g c e l h b at is =
      let n : ℕ = length s.records + count_flying s.sent in
      refused_by s g c e l (refusals.has_byte_codes w.kind && nat_lt 255 c.code) (nat_lt w.room (length c.bytes)) (nat_le MAX_ITEMS n) at (settled s g b h.flies) refl (λ full. leb-true MAX_ITEMS n full) is h

  -- the steps of a run that is under way
  pub stepped : (s : Calls) (g : TraceLog) (ls : List TraceLine) → Holds s g → Holds s (with_run g ls)
  stepped s g ls h = record { ended = h.ended; taken = h.taken; replies = h.replies; serves = h.serves; flies = on h.flies }
    where
      on : Flies s g → Flies s (with_run g ls)
      on (quiet a f u p) = quiet a f u p
      on (late p m a x f u q) = late p m a x f u q
      on (owned d rs q a f u e begun at' pass few lo p) = owned d rs q a f u e begun at' pass few lo p

  pub record Rests (s : Calls) (g : TraceLog) : Type 0 where
    pub told : Holds s g
    pub rest : g.run ≡ []

  given_up_rest : (b : Bool) (n : ℕ) (l : TraceLine) (g : TraceLog) → (log_end w calls (given_up_end b n) l g).run ≡ []
  given_up_rest true n l g = refl
  given_up_rest false n l g = refl

  drained_rest : (b e : Bool) (l : TraceLine) (g : TraceLog) → (log_end w calls (drained_end b e) l g).run ≡ []
  drained_rest true e l g = refl
  drained_rest false e l g = refl

  refused_rest : (e : TraceEnd) (bad long full : Bool) (code len room : ℕ) (l : TraceLine) (g : TraceLog)
      → refused_end (cond bad (Some (refusal.BadCode code)) (cond long (Some (refusal.TooLong len room)) (cond full (Some refusal.JournalFull) None))) ≡ Some e
      → (log_end w calls e l g).run ≡ []
  refused_rest e true long full code len room l g h = ap (λ (x : TraceEnd). (log_end w calls x l g).run) (sym (same_Some (end.BadCode code) e h))
  refused_rest e false true full code len room l g h = ap (λ (x : TraceEnd). (log_end w calls x l g).run) (sym (same_Some (end.TooLong len room) e h))
  refused_rest e false false true code len room l g h = ap (λ (x : TraceEnd). (log_end w calls x l g).run) (sym (same_Some end.JournalFull e h))
  refused_rest e false false false code len room l g h = absurd cc

  turn_holds : (s t : Calls) (ms : List TraceLine) (g : TraceLog) → Turn w limits calls s ms t → Rests s g → Rests t (log_from w calls g ms)
  turn_holds s t ms g (idles _ l at rests) h =
      let same : log_end w calls l.end l g ≡ g = ap (λ (e : TraceEnd). log_end w calls e l g) rests.1 ∙ ap (λ (a : Action). with_run g (g.run ++ step_in a l)) rests.0 ∙ ap (with_run g) (append-nil g.run) in
      subst (Rests s) (sym same) h
  turn_holds s t ms g (refuses _ c e l b at is rests) h =
      subst (λ (x : TraceEnd). Rests (end_call s) (log_end w calls x l g)) (sym rests.1) (record {
        told = refuse_holds s g c e l h.told b at is;
        rest = refused_rest e (refusals.has_byte_codes w.kind && nat_lt 255 c.code) (nat_lt w.room (length c.bytes)) (nat_le MAX_ITEMS (length s.records + count_flying s.sent)) c.code (length c.bytes) w.room l g is;
      })
  turn_holds s t ms g (delays _ s' c r l sv free lt rests) h =
      let q = served s s' c g sv h.told in
      subst (λ (x : TraceEnd). Rests (end_call (take_reading s' r)) (log_end w calls x l g)) (sym rests.1) (record { told = soon_holds s' g c r l q.0 q.1 q.2 free lt; rest = refl })
  turn_holds s t ms g (sends _ s' c r ls l sv free le run is) h =
      let q = served s s' c g sv h.told in
      subst (Rests (record (take_reading s' r) { sent = Some (sent_by c s'.space (reading_at s'.readings r)); block = block_after w c s'.block; looks = 0 })) (sym (log_run w calls (posts_call w c s'.block) ls l _ end.Posted g run is h.rest))
      (record { told = posted_holds s' (with_run g ls) c r l (stepped s' g ls q.0) q.1 q.2 free le; rest = refl })
  turn_holds s t ms g (looks_on _ s' c p ls l sv es lt run is) h =
      let q = served s s' c g sv h.told in
      subst (Rests (record s' { looks = s'.looks + 1 })) (sym (log_run w calls (look_run w) ls l _ (end.Clear (s'.looks + 1)) g run is h.rest))
      (record { told = clear_holds s' (with_run g ls) (s'.looks + 1) (s'.looks + 1) l (stepped s' g ls q.0); rest = refl })
  turn_holds s t ms g (gives_up _ s' c p ls l sv es le run is) h =
      let q = served s s' c g sv h.told in
      let k = stepped s' g ls q.0 in
      subst (Rests (end_call (record s' { looks = s'.looks + 1; sent = given_up c.polls (Some p) }))) (sym (log_run w calls (look_run w) ls l _ (given_up_end (is_late p) c.polls) g run is h.rest))
      (record { told = given_up_holds s' (with_run g ls) c p (s'.looks + 1) l k q.1 q.2 es (omega (arith, le)) k.flies; rest = given_up_rest (is_late p) c.polls l (with_run g ls) })
  turn_holds s t ms g (takes _ s' c p r error block ls l sv es run is) h =
      let q = served s s' c g sv h.told in
      let k = stepped s' g ls q.0 in
      subst (Rests (goes_on_if (is_late p) (record (take_reading s' r) { sent = None; block = block; space = replied w block; records = s'.records ++ record_of p error (replied w block) r ∷ [] })))
      (sym (log_run w calls (look_run w) ls l _ (drained_end (is_late p) error) g run is h.rest))
      (record { told = drained_holds s' (with_run g ls) c p r error block (replied w block) l k q.1 (look_output w ls l error block run) q.2 es k.flies; rest = drained_rest (is_late p) error l (with_run g ls) })

  pub turns_hold : (s t : Calls) (ls : List TraceLine) (g : TraceLog) → Turns w limits calls s ls t → Rests s g → Rests t (log_from w calls g ls)
  turns_hold s t ls g none h = h
  turns_hold s t ls' g (more ls ms u v before turn) h =
      subst (Rests t) (sym (log_append w calls g ls ms)) (turn_holds u t ms (log_from w calls g ls) turn (turns_hold s u ls g before h))
