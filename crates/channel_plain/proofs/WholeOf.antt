-- The records of a run of words are whole.
use Rattle.std.proofs.Common.{◌≡◌, ℕ, ◌+◌, ◌≤◌, Bool, true, false, List, [], ◌∷◌, ◌++◌, map, refl, sym, ap, ◌∙◌, subst, arith}
use Rattle.std.specs.Prelude.{Option, Some, None}
use Rattle.std.specs.List.{slice_get}
use Rattle.std.proofs.lemmas.List.{map-append}
use Rattle.pcc_history.specs.Channel.{Exchange, over}
use Rattle.pcc_history.specs.Histories.{WholeHistory, space_after}
use Rattle.rate_limit.specs.declared.Limits.{Limits}
use Rattle.pcc_journal.specs.declared.record.Record.{Record}
use Rattle.pcc_journal.specs.Records.{exchanges_of, exchange_of_record}
use Rattle.pcc_steps.specs.declared.wiring.Wiring.{Wiring}
use Rattle.channel_core.specs.declared.sent.Sent.{Sent}
use Rattle.channel_plain.specs.declared.trace.Asked.{Asked}
use Rattle.channel_plain.specs.declared.trace.TraceLine.{TraceLine}
use Rattle.channel_core.specs.Sendings.{first_looks, is_late, record_of}
use Rattle.channel_plain.specs.WordRuns.{Calls, Serves, goes_on, begins, Turn, Turns, none, more, idles, refuses, delays, sends, looks_on, gives_up, takes, end_call, take_reading, from_opening, goes_on_if, replied, IsAsking}
use Rattle.channel_plain.specs.Wholes.{Caller, no_call, one_more, IsWhole, bytes_asked, caller_of_call, caller_of_record}

whole_more : (space : List ℕ) (xs : List Exchange) (bs : List (List ℕ)) (x : Exchange) (b : List ℕ) → WholeHistory space xs bs
    → x.input ≡ over (space_after space xs) b → WholeHistory space (xs ++ x ∷ []) (bs ++ b ∷ [])
whole_more space [] [] x b h e = (e, tt)
whole_more space [] (c ∷ cs) x b h e = absurd h
whole_more space (y ∷ ys) [] x b h e = absurd h
whole_more space (y ∷ ys) (c ∷ cs) x b h e = (h.0, whole_more y.output ys cs x b h.1 e)

after_more : (space : List ℕ) (xs : List Exchange) (x : Exchange) → space_after space (xs ++ x ∷ []) ≡ x.output
after_more space [] x = refl
after_more space (y ∷ ys) x = after_more y.output ys x

abbrev late_by : Bool → ℕ
late_by true = 1
late_by false = 0

-- the call of the command in flight is after those that have records, and before the calls that have not begun
abbrev Flown : List Asked → ℕ → ℕ → List ℕ → Option Sent → Type 0
Flown calls n ended space None = n ≤ ended
Flown calls n ended space (Some p) = (j : ℕ) × (c : Asked) × (slice_get calls j ≡ Some c) × (p.command.input ≡ over space c.bytes) × (p.command.caller ≡ c.caller) × (p.command.code ≡ c.code) × (n ≤ j) × (j + late_by (is_late p) ≤ ended)

record Told (opening : List ℕ) (calls : List Asked) (s : Calls) : Type 0 where
  whole : IsWhole opening calls s.records
  space : s.space ≡ space_after opening (exchanges_of s.records)
  flown : Flown calls whole.place s.ended s.space s.sent

flown_on : (calls : List Asked) (n e e' : ℕ) (space : List ℕ) (o : Option Sent) → e ≤ e' → Flown calls n e space o → Flown calls n e' space o
flown_on calls n e e' space None le h = let a = h in omega (arith, le, a)
flown_on calls n e e' space (Some p) le h = let a = h.7 in (h.0, h.1, h.2, h.3, h.4, h.5, h.6, omega (arith, le, a))

module _ (w : Wiring) (limits : Limits) (calls : List Asked) (opening : List ℕ) where
  served_told : (x y : Calls) (c : Asked) → Serves w limits calls x c y → Told opening calls x → Told opening calls y × (slice_get calls y.ended ≡ Some c)
  served_told x y c (goes_on _ _ b at) t = (t, at)
  served_told x y c (begins _ _ b at free) t = (record { whole = t.whole; space = t.space; flown = t.flown }, at)

  ended_told : (x : Calls) → Told opening calls x → Told opening calls (end_call x)
  ended_told x t = record { whole = t.whole; space = t.space; flown = flown_on calls t.whole.place x.ended (x.ended + 1) x.space x.sent (omega arith) t.flown }

  reading_told : (x : Calls) (r : ℕ) → Told opening calls x → Told opening calls (take_reading x r)
  reading_told x r t = record { whole = t.whole; space = t.space; flown = t.flown }

  -- a command is drained
  drained_told : (late : Bool) (x : Calls) (p : Sent) (r : ℕ) (error : Bool) (block output : List ℕ) → is_late p ≡ late → Told opening calls x → x.sent ≡ Some p
      → Told opening calls (goes_on_if late (record (take_reading x r) { sent = None; block = block; space = output; records = x.records ++ record_of p error output r ∷ [] }))
  drained_told late x p r error block output el t es = by_late late el
    where
      h : (j : ℕ) × (c : Asked) × (slice_get calls j ≡ Some c) × (p.command.input ≡ over x.space c.bytes) × (p.command.caller ≡ c.caller) × (p.command.code ≡ c.code) × (t.whole.place ≤ j) × (j + late_by (is_late p) ≤ x.ended)
      h = subst (λ (o : Option Sent). Flown calls t.whole.place x.ended x.space o) es t.flown

      rec : Record
      rec = record_of p error output r

      grown : IsWhole opening calls (x.records ++ record_of p error output r ∷ [])
      grown = record {
        place = h.0 + 1;
        served = t.whole.served ++ h.1 ∷ [];
        chosen = one_more t.whole.place h.0 t.whole.served h.1 t.whole.chosen h.6 h.2;
        callers = map-append caller_of_record x.records (record_of p error output r ∷ []) ∙ (ap (λ (z : List Caller × ℕ × ℕ). z.0 ++ record { caller = z.1; code = z.2 } ∷ []) (λ i. (t.whole.callers i, h.4 i, h.5 i)) ∙ sym (map-append caller_of_call t.whole.served (h.1 ∷ [])));
        whole = subst (λ (z : List Exchange × List (List ℕ)). WholeHistory opening z.0 z.1) (λ i. (sym (map-append exchange_of_record x.records (record_of p error output r ∷ [])) i, sym (map-append bytes_asked t.whole.served (h.1 ∷ [])) i))
            (whole_more opening (exchanges_of x.records) (map bytes_asked t.whole.served) (exchange_of_record (record_of p error output r)) h.1.bytes t.whole.whole (h.3 ∙ ap (λ (s : List ℕ). over s h.1.bytes) t.space));
      }

      spaced : output ≡ space_after opening (exchanges_of (x.records ++ record_of p error output r ∷ []))
      spaced = sym (ap (space_after opening) (map-append exchange_of_record x.records (record_of p error output r ∷ [])) ∙ after_more opening (exchanges_of x.records) (exchange_of_record (record_of p error output r)))

      by_late : (late : Bool) → is_late p ≡ late → Told opening calls (goes_on_if late (record (take_reading x r) { sent = None; block = block; space = output; records = x.records ++ record_of p error output r ∷ [] }))
      by_late true e = record { whole = grown; space = spaced; flown = subst (λ (b : Bool). h.0 + late_by b ≤ x.ended) e h.7 }
      by_late false e = record { whole = grown; space = spaced; flown = let a = subst (λ (b : Bool). h.0 + late_by b ≤ x.ended) e h.7 in low h.0 x.ended a }
        where
          low : (j n : ℕ) → j + 0 ≤ n → j + 1 ≤ n + 1
          low j n a = omega (arith, a)

  turn_told : (x y : Calls) (ls : List TraceLine) → Turn w limits calls x ls y → Told opening calls x → Told opening calls y
  turn_told x y ls (idles _ l at rests) t = t
  turn_told x y ls (refuses _ c e l b at no_way rests) t = ended_told x t
  turn_told x y ls (delays _ s c r l sv empty lt rests) t = let q = served_told x s c sv t in ended_told (take_reading s r) (reading_told s r q.0)
  turn_told x y ls' (sends _ s c r ls l sv empty le run e) t = let q = served_told x s c sv t in let u = q.0 in let below : u.whole.place ≤ s.ended = subst (λ (o : Option Sent). Flown calls u.whole.place s.ended s.space o) empty u.flown in
      record { whole = u.whole; space = u.space; flown = (s.ended, c, q.1, refl, refl, refl, below, omega arith) }
  turn_told x y ls' (looks_on _ s c p ls l sv es lt run e) t = let u = (served_told x s c sv t).0 in record { whole = u.whole; space = u.space; flown = u.flown }
  turn_told x y ls' (gives_up _ s c p ls l sv es lt run e) t = let u = (served_told x s c sv t).0 in let h = subst (λ (o : Option Sent). Flown calls u.whole.place s.ended s.space o) es u.flown in
      record { whole = u.whole; space = u.space; flown = (h.0, h.1, h.2, h.3, h.4, h.5, h.6, late_more (is_late p) (is_late (record p { note = record p.note { looks = first_looks p.note.looks c.polls } })) h.0 s.ended h.7) }
    where
      late_more : (b c : Bool) (j n : ℕ) → j + late_by b ≤ n → j + late_by c ≤ n + 1
      late_more true true j n h = omega (arith, h)
      late_more true false j n h = omega (arith, h)
      late_more false true j n h = omega (arith, h)
      late_more false false j n h = omega (arith, h)
  turn_told x y ls' (takes _ s c p r error block ls l sv es run e) t = drained_told (is_late p) s p r error block (replied w block) refl (served_told x s c sv t).0 es

  turns_told : (x y : Calls) (ls : List TraceLine) → Turns w limits calls x ls y → Told opening calls x → Told opening calls y
  turns_told x y ls none t = t
  turns_told x y ls' (more ls ms s u before turn) t = turn_told s u ms turn (turns_told x s ls before t)

  pub whole_of : (lines : List TraceLine) (readings : List ℕ) (records : List Record) (sent : Option Sent)
      → IsAsking w limits calls opening lines readings records sent → IsWhole opening calls records
  whole_of lines readings records sent a = subst (IsWhole opening calls) (sym a.kept)
      (turns_told (from_opening w limits calls opening) a.after a.past a.runs
      (record { whole = record { place = 0; served = []; chosen = no_call 0; callers = refl; whole = tt }; space = refl; flown = omega arith })).whole
