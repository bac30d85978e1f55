-- Several opened subspaces: a call is answered by the channel with its ID, and each journal is that of a run on its channel alone.
use Rattle.std.proofs.Common.{◌≡◌, ◌≢◌, ℕ, ◌+◌, ◌-◌, ◌^◌, ◌<◌, min, Bool, true, false, cond, List, [], ◌∷◌, ◌++◌, length, get_or, map, set, zero, suc, refl, sym, ap, ◌∙◌, subst, inl, inr, arith}
use Rattle.std.specs.Prelude.{Option, Some, None, ◌==◌, slice_get}
use Rattle.std.specs.List.{AllByRecursion, find}
use Rattle.std.specs.Option.{option_map}
use Rattle.std.proofs.lemmas.Bool.{cases_eq, cond_both, eq-eqb, eqb-true, ne_eqb}
use Rattle.std.proofs.lemmas.List.{length-map}
use Rattle.std.proofs.lemmas.Option.{same_Some, slice_get-get_or, slice_get_within}
use Rattle.pcct_table.specs.declared.subspace.Subspace.{Subspace}
use Rattle.pcct_table.specs.declared.table.Table.{Table}
use Rattle.pcc_script.specs.declared.scenario.Device.{Device}
use Rattle.pcc_script.specs.declared.scenario.OpenLine.{OpenLine}
use Rattle.pcc_setup.specs.Openings.{AllOpen, structure_fault}
use Rattle.pcc_setup.proofs.Controllers.{all_at, all_from, once, open_rest}
use Rattle.script_run.specs.Channels.{AreDistinct, fresh_channel, id_of, moved_up}
use Rattle.script_run.specs.Headlines.{AreHeadlines, KeepsHeadline, line_on, lines_on}
use Rattle.channel_turns.specs.ChannelRuns.{Channel, ChannelStart, fresh}
use Rattle.channel_headline.specs.ChannelLog.{ChannelLine}
use Rattle.channel_headline.specs.Runs.{HeadlineOf}
use Rattle.script_run.specs.StepRun.{Ask, Asks, LineAsk, Moves, Nothing, Run, ShownReply, Turn, answer, asked_on, step_run, turn_of, waited}
use Rattle.script_run.proofs.Headlines.{run_headlines}

-- ---- lists

all_append : {X : Type 0} (P : X → Type 0) (xs ys : List X) → AllByRecursion P xs → AllByRecursion P ys → AllByRecursion P (xs ++ ys)
all_append P [] ys h k = k
all_append P (x ∷ xs) ys h k = (h.0, all_append P xs ys h.1 k)

all_map : {X Y : Type 0} (P : Y → Type 0) (f : X → Y) (xs : List X) → AllByRecursion (λ x. P (f x)) xs → AllByRecursion P (map f xs)
all_map P f [] h = tt
all_map P f (x ∷ xs) h = (h.0, all_map P f xs h.1)

map_at : {X Y : Type 0} (f : X → Y) (xs : List X) (i : ℕ) (x : X) → slice_get xs i ≡ Some x → slice_get (map f xs) i ≡ Some (f x)
map_at f [] i x e = absurd cc
map_at f (y ∷ ys) zero x e = ap (λ z. Some (f z)) (same_Some y x e)
map_at f (y ∷ ys) (suc i) x e = map_at f ys i x e

map_map : {X Y Z : Type 0} (g : Y → Z) (f : X → Y) (xs : List X) → map g (map f xs) ≡ map (λ x. g (f x)) xs
map_map g f [] = refl
map_map g f (x ∷ xs) = ap (λ v. g (f x) ∷ v) (map_map g f xs)

-- ---- the channel of an ID

-- the first channel with this ID
abbrev pub channel_on : ℕ → List Channel → Option Channel
channel_on id cs = find (λ c. c.start.head.id == id) cs

-- a channel that has answered a call
abbrev pub called : Ask → Channel → Channel
called ask c = record c { now = (answer c.start ask c.now).now }

-- what holds of all channels holds of it, and it has the ID
found_has : (P : Channel → Type 0) (id : ℕ) (cs : List Channel) (c : Channel) → AllByRecursion P cs → channel_on id cs ≡ Some c → P c × (id_of c ≡ id)
found_has P id [] c h e = absurd cc
found_has P id (d ∷ ds) c h e = at (d.start.head.id == id) refl e (found_has P id ds c h.1)
  where
    at : (b : Bool) → (d.start.head.id == id) ≡ b → cond b (Some d) (channel_on id ds) ≡ Some c → (channel_on id ds ≡ Some c → P c × (id_of c ≡ id)) → P c × (id_of c ≡ id)
    at true test is later = let same : d ≡ c = same_Some d c is in (subst P same h.0, subst (λ (x : Channel). id_of x ≡ id) same (eqb-true (id_of d) id test))
    at false test is later = later is

-- some channel with the ID is found where one stands
pub channel_found : (cs : List Channel) (i : ℕ) (c : Channel) → slice_get cs i ≡ Some c → (d : Channel) × (channel_on (id_of c) cs ≡ Some d)
channel_found [] i c e = absurd cc
channel_found (d ∷ ds) zero c e =
    let same : d ≡ c = same_Some d c e in
    let test : (d.start.head.id == id_of c) ≡ true = eq-eqb (id_of d) (id_of c) (ap id_of same) in
    (d, rw test refl)
channel_found (d ∷ ds) (suc i) c e = at (d.start.head.id == id_of c) (channel_found ds i c e)
  where
    at : (b : Bool) → ((x : Channel) × (channel_on (id_of c) ds ≡ Some x)) → (x : Channel) × (cond b (Some d) (channel_on (id_of c) ds) ≡ Some x)
    at true h = (d, refl)
    at false h = h

-- where no two have one ID, it is that channel
pub channel_at : (cs : List Channel) (i : ℕ) (c : Channel) → AreDistinct (map id_of cs) → slice_get cs i ≡ Some c → channel_on (id_of c) cs ≡ Some c
channel_at [] i c apart e = absurd cc
channel_at (d ∷ ds) zero c apart e =
    let test : (d.start.head.id == id_of c) ≡ true = eq-eqb (id_of d) (id_of c) (ap id_of (same_Some d c e)) in
    rw test e
channel_at (d ∷ ds) (suc i) c apart e =
    let differs : id_of d ≢ id_of c = all_at (λ m. id_of d ≢ m) (map id_of ds) i (id_of c) apart.0 (map_at id_of ds i c e) in
    let test : (d.start.head.id == id_of c) ≡ false = ne_eqb (id_of d) (id_of c) differs in
    rw test (channel_at ds i c apart.1 e)

-- ---- a call

-- its reply is that of the channel with its ID
pub call_reply : (id : ℕ) (ask : Ask) (cs : List Channel) → (asked_on id ask cs).reply ≡ option_map (λ c. (answer c.start ask c.now).reply) (channel_on id cs)
call_reply id ask [] = refl
call_reply id ask (c ∷ cs) =
    cond_both (c.start.head.id == id) _ _ (λ (t : Turn). t.reply ≡ option_map (λ (d : Channel). (answer d.start ask d.now).reply) (channel_on id (c ∷ cs)))
    (λ test. rw test refl)
    (λ test. rw test (call_reply id ask cs))

-- that channel has answered it
pub call_channel : (id : ℕ) (ask : Ask) (cs : List Channel) → channel_on id (asked_on id ask cs).channels ≡ option_map (called ask) (channel_on id cs)
call_channel id ask [] = refl
call_channel id ask (c ∷ cs) =
    cond_both (c.start.head.id == id) _ _ (λ (t : Turn). channel_on id t.channels ≡ option_map (called ask) (channel_on id (c ∷ cs)))
    (λ test. rw test refl)
    (λ test. rw test (call_channel id ask cs))

-- a channel with another ID is as before
pub call_other : (id other : ℕ) (ask : Ask) (cs : List Channel) → id ≢ other → channel_on other (asked_on id ask cs).channels ≡ channel_on other cs
call_other id other ask [] differs = refl
call_other id other ask (c ∷ cs) differs =
    cond_both (c.start.head.id == id) _ _ (λ (t : Turn). channel_on other t.channels ≡ channel_on other (c ∷ cs))
    (λ test.
    let unlike : (c.start.head.id == other) ≡ false = ne_eqb (id_of c) other (λ same. differs (sym (eqb-true (id_of c) id test) ∙ same)) in
    rw unlike refl)
    (λ test. ap (λ (o : Option Channel). cond (c.start.head.id == other) (Some c) o) (call_other id other ask cs differs))

pub call_starts : (id : ℕ) (ask : Ask) (cs : List Channel) → map (λ c. c.start) (asked_on id ask cs).channels ≡ map (λ c. c.start) cs
call_starts id ask [] = refl
call_starts id ask (c ∷ cs) =
    cond_both (c.start.head.id == id) _ _ (λ (t : Turn). map (λ (d : Channel). d.start) t.channels ≡ c.start ∷ map (λ (d : Channel). d.start) cs)
    (λ test. refl)
    (λ test. ap (λ (v : List ChannelStart). c.start ∷ v) (call_starts id ask cs))

-- a call is answered where some channel has its ID
pub call_answers : (id : ℕ) (ask : Ask) (cs : List Channel) (c : Channel) → channel_on id cs ≡ Some c → (asked_on id ask cs).reply ≡ Some (answer c.start ask c.now).reply
call_answers id ask cs c e = call_reply id ask cs ∙ ap (option_map (λ (d : Channel). (answer d.start ask d.now).reply)) e

pub call_answered : (id : ℕ) (ask : Ask) (cs : List Channel) (i : ℕ) (c : Channel) → slice_get cs i ≡ Some c → c.start.head.id ≡ id → (reply : ShownReply) × ((asked_on id ask cs).reply ≡ Some reply)
call_answered id ask cs i c e is =
    let P : ℕ → Type 0 = λ n. (d : Channel) × (channel_on n cs ≡ Some d) in
    let found : (d : Channel) × (channel_on id cs ≡ Some d) = subst P is (channel_found cs i c e) in
    ((answer found.0.start ask found.0.now).reply, call_answers id ask cs found.0 found.1)

-- where no two have one ID, a call is answered by the channel at the place of its ID, and changes that place alone
pub call_at : (ask : Ask) (cs : List Channel) (i : ℕ) (c : Channel) → AreDistinct (map id_of cs) → slice_get cs i ≡ Some c
    → asked_on c.start.head.id ask cs ≡ record { reply = Some (answer c.start ask c.now).reply; channels = set cs i (called ask c) }
call_at ask [] i c apart e = absurd cc
call_at ask (d ∷ ds) zero c apart e =
    let same : d ≡ c = same_Some d c e in
    let test : (d.start.head.id == id_of c) ≡ true = eq-eqb (id_of d) (id_of c) (ap id_of same) in
    rw test (ap (λ (x : Channel). record { reply = Some (answer x.start ask x.now).reply; channels = called ask x ∷ ds }) same)
call_at ask (d ∷ ds) (suc i) c apart e =
    let differs : id_of d ≢ id_of c = all_at (λ m. id_of d ≢ m) (map id_of ds) i (id_of c) apart.0 (map_at id_of ds i c e) in
    let test : (d.start.head.id == id_of c) ≡ false = ne_eqb (id_of d) (id_of c) differs in
    rw test (ap (λ (t : Turn). record { reply = t.reply; channels = d ∷ t.channels }) (call_at ask ds i c apart.1 e))

-- a channel that is found stands at some place
pub found_place : (id : ℕ) (cs : List Channel) (c : Channel) → channel_on id cs ≡ Some c → (i : ℕ) × (slice_get cs i ≡ Some c) × (c.start.head.id ≡ id)
found_place id [] c e = absurd cc
found_place id (d ∷ ds) c e = at (d.start.head.id == id) refl e (found_place id ds c)
  where
    at : (b : Bool) → (d.start.head.id == id) ≡ b → cond b (Some d) (channel_on id ds) ≡ Some c → (channel_on id ds ≡ Some c → (i : ℕ) × (slice_get ds i ≡ Some c) × (c.start.head.id ≡ id)) → (i : ℕ) × (slice_get (d ∷ ds) i ≡ Some c) × (c.start.head.id ≡ id)
    at true test is later = (zero, is, subst (λ (x : Channel). id_of x ≡ id) (same_Some d c is) (eqb-true (id_of d) id test))
    at false test is later = let found : (i : ℕ) × (slice_get ds i ≡ Some c) × (c.start.head.id ≡ id) = later is in (suc found.0, found.1, found.2)

-- clocks that are not at their end are moved up as far as the line says
pub channels_waited : (n : ℕ) (cs : List Channel) → AllByRecursion (λ c. c.now.added + n < 2 ^ 128) cs → map (waited n) cs ≡ map (moved_up n) cs
channels_waited n [] h = refl
channels_waited n (c ∷ cs) h =
    let lt : c.now.added + n < 2 ^ 128 = h.0 in
    let fits : c.now.added + n ≡ min (c.now.added + n) (2 ^ 128 - 1) = omega (arith, lt) in
    λ k. record { start = c.start; now = record c.now { added = fits k } } ∷ channels_waited n cs h.1 k

-- ---- a line

waited_channel : (n id : ℕ) (cs : List Channel) → channel_on id (map (waited n) cs) ≡ option_map (waited n) (channel_on id cs)
waited_channel n id [] = refl
waited_channel n id (c ∷ cs) = at (c.start.head.id == id) (waited_channel n id cs)
  where
    at : (b : Bool) → channel_on id (map (waited n) cs) ≡ option_map (waited n) (channel_on id cs) → cond b (Some (waited n c)) (channel_on id (map (waited n) cs)) ≡ option_map (waited n) (cond b (Some c) (channel_on id cs))
    at true later = refl
    at false later = later

-- what a line makes of the channel with an ID, and how that channel sees the line, is a matter of that channel alone
turn_channel : (l : LineAsk) (id : ℕ) (cs ds : List Channel) → channel_on id cs ≡ channel_on id ds → channel_on id (turn_of l cs).channels ≡ channel_on id (turn_of l ds).channels
turn_channel (Asks subspace ask) id cs ds e =
    let P : ℕ → Type 0 = λ n. channel_on id (asked_on n ask cs).channels ≡ channel_on id (asked_on n ask ds).channels in
    elim (cases_eq id subspace) [
      | inl same ↦ subst P same (call_channel id ask cs ∙ ap (option_map (called ask)) e ∙ sym (call_channel id ask ds))
      | inr differs ↦ call_other subspace id ask cs (λ same. differs (sym same)) ∙ e ∙ sym (call_other subspace id ask ds (λ same. differs (sym same)))
    ]
turn_channel (Moves n) id cs ds e = waited_channel n id cs ∙ ap (option_map (waited n)) e ∙ sym (waited_channel n id ds)
turn_channel Nothing id cs ds e = e

turn_sees : (l : LineAsk) (id : ℕ) (cs ds : List Channel) → channel_on id cs ≡ channel_on id ds → line_on id l (turn_of l cs).reply ≡ line_on id l (turn_of l ds).reply
turn_sees (Asks subspace ask) id cs ds e =
    let P : ℕ → Type 0 = λ n. (asked_on n ask cs).reply ≡ (asked_on n ask ds).reply in
    elim (cases_eq id subspace) [
      | inl same ↦ ap (line_on id (Asks subspace ask)) (subst P same (call_reply id ask cs ∙ ap (option_map (λ (c : Channel). (answer c.start ask c.now).reply)) e ∙ sym (call_reply id ask ds)))
      | inr differs ↦ let unlike : (id == subspace) ≡ false = ne_eqb id subspace differs in rw unlike refl
    ]
turn_sees (Moves n) id cs ds e = refl
turn_sees Nothing id cs ds e = refl

waited_starts : (n : ℕ) (cs : List Channel) → map (λ c. c.start) (map (waited n) cs) ≡ map (λ c. c.start) cs
waited_starts n cs = map_map (λ (c : Channel). c.start) (waited n) cs

pub turn_starts : (l : LineAsk) (cs : List Channel) → map (λ c. c.start) (turn_of l cs).channels ≡ map (λ c. c.start) cs
turn_starts (Asks subspace ask) cs = call_starts subspace ask cs
turn_starts (Moves n) cs = waited_starts n cs
turn_starts Nothing cs = refl

-- ---- a run

pub run_starts : (ls : List LineAsk) (cs : List Channel) → map (λ c. c.start) (step_run ls cs).channels ≡ map (λ c. c.start) cs
run_starts [] cs = refl
run_starts (l ∷ ls) cs = run_starts ls (turn_of l cs).channels ∙ turn_starts l cs

pub same_ids : (cs ds : List Channel) → map (λ c. c.start) cs ≡ map (λ c. c.start) ds → map id_of cs ≡ map id_of ds
same_ids cs ds e = sym (map_map (λ (s : ChannelStart). s.head.id) (λ (c : Channel). c.start) cs) ∙ ap (map (λ (s : ChannelStart). s.head.id)) e ∙ map_map (λ (s : ChannelStart). s.head.id) (λ (c : Channel). c.start) ds

same_length : (cs ds : List Channel) → map (λ c. c.start) cs ≡ map (λ c. c.start) ds → length cs ≡ length ds
same_length cs ds e = sym (length-map cs (λ (c : Channel). c.start)) ∙ ap length e ∙ length-map ds (λ (c : Channel). c.start)

pub turn_ids : (l : LineAsk) (cs : List Channel) → map id_of (turn_of l cs).channels ≡ map id_of cs
turn_ids l cs = same_ids (turn_of l cs).channels cs (turn_starts l cs)

pub run_ids : (ls : List LineAsk) (cs : List Channel) → map id_of (step_run ls cs).channels ≡ map id_of cs
run_ids ls cs = same_ids (step_run ls cs).channels cs (run_starts ls cs)

pub turn_length : (l : LineAsk) (cs : List Channel) → length (turn_of l cs).channels ≡ length cs
turn_length l cs = same_length (turn_of l cs).channels cs (turn_starts l cs)

pub run_length : (ls : List LineAsk) (cs : List Channel) → length (step_run ls cs).channels ≡ length cs
run_length ls cs = same_length (step_run ls cs).channels cs (run_starts ls cs)

-- what a run makes of the channel with an ID, and how that channel sees the line, is a matter of that channel alone
pub run_channel : (ls : List LineAsk) (id : ℕ) (cs ds : List Channel) → channel_on id cs ≡ channel_on id ds → channel_on id (step_run ls cs).channels ≡ channel_on id (step_run ls ds).channels
run_channel [] id cs ds e = e
run_channel (l ∷ ls) id cs ds e = run_channel ls id (turn_of l cs).channels (turn_of l ds).channels (turn_channel l id cs ds e)

pub run_sees : (ls : List LineAsk) (id : ℕ) (cs ds : List Channel) → channel_on id cs ≡ channel_on id ds → lines_on id ls (step_run ls cs).replies ≡ lines_on id ls (step_run ls ds).replies
run_sees [] id cs ds e = refl
run_sees (l ∷ ls) id cs ds e =
    let here : line_on id l (turn_of l cs).reply ≡ line_on id l (turn_of l ds).reply = turn_sees l id cs ds e in
    let later : lines_on id ls (step_run ls (turn_of l cs).channels).replies ≡ lines_on id ls (step_run ls (turn_of l ds).channels).replies = run_sees ls id (turn_of l cs).channels (turn_of l ds).channels (turn_channel l id cs ds e) in
    ap (λ (v : List ChannelLine). v ++ lines_on id ls (step_run ls (turn_of l cs).channels).replies) here ∙ ap (λ (v : List ChannelLine). line_on id l (turn_of l ds).reply ++ v) later

no_channels : (ls : List LineAsk) → (step_run ls []).channels ≡ []
no_channels [] = refl
no_channels (Asks subspace ask ∷ ls) = no_channels ls
no_channels (Moves n ∷ ls) = no_channels ls
no_channels (Nothing ∷ ls) = no_channels ls

only_one : (id : ℕ) (cs : List Channel) (d : Channel) → length cs ≡ 1 → channel_on id cs ≡ Some d → cs ≡ d ∷ []
only_one id [] d one e = absurd cc
only_one id (c ∷ []) d one e = at (c.start.head.id == id) e
  where
    at : (b : Bool) → cond b (Some c) None ≡ Some d → c ∷ [] ≡ d ∷ []
    at true is = ap (λ (x : Channel). x ∷ []) (same_Some c d is)
    at false is = absurd cc
only_one id (c ∷ x ∷ xs) d one e = absurd (omega arith)

-- where no two have one ID, a run leaves at each place the channel that a run on that channel alone leaves
pub runs_apart : (ls : List LineAsk) (cs : List Channel) (i : ℕ) (c : Channel) → AreDistinct (map id_of cs) → slice_get cs i ≡ Some c
    → (d : Channel) × (slice_get (step_run ls cs).channels i ≡ Some d) × ((step_run ls (c ∷ [])).channels ≡ d ∷ [])
runs_apart ls cs i c apart e =
    let r : Run = step_run ls cs in
    let a : Run = step_run ls (c ∷ []) in
    let within : i < length cs = slice_get_within cs i c e in
    let len : length r.channels ≡ length cs = run_length ls cs in
    let d : Channel = get_or r.channels i c in
    let at : slice_get r.channels i ≡ Some d = slice_get-get_or r.channels i c (omega arith) in
    let ids : Some (id_of d) ≡ Some (id_of c) = sym (map_at id_of r.channels i d at) ∙ ap (λ (v : List ℕ). slice_get v i) (run_ids ls cs) ∙ map_at id_of cs i c e in
    let same : id_of d ≡ id_of c = same_Some (id_of d) (id_of c) ids in
    let left : channel_on (id_of d) r.channels ≡ Some d = channel_at r.channels i d (subst AreDistinct (sym (run_ids ls cs)) apart) at in
    let before : channel_on (id_of d) cs ≡ Some c = ap (λ (n : ℕ). channel_on n cs) same ∙ channel_at cs i c apart e in
    let test : (c.start.head.id == id_of d) ≡ true = eq-eqb (id_of c) (id_of d) (sym same) in
    let alone : channel_on (id_of d) (c ∷ []) ≡ Some c = rw test refl in
    (d, at, only_one (id_of d) a.channels d (run_length ls (c ∷ [])) (run_channel ls (id_of d) (c ∷ []) cs (alone ∙ sym before) ∙ left))

-- ---- headlines

-- nothing was asked of a channel yet
abbrev pub IsFresh : Channel → Type 0
IsFresh c = c.now ≡ fresh c.start

other_replies : (ls : List LineAsk) (rs qs : List (Option ShownReply)) (c : Channel) → lines_on (id_of c) ls rs ≡ lines_on (id_of c) ls qs → KeepsHeadline ls rs c → KeepsHeadline ls qs c
other_replies ls rs qs c e h = let P : List ChannelLine → Type 0 = λ v. HeadlineOf c.start v c.now in subst P e h

-- the channel that a run leaves with an ID
left_headline : (ls : List LineAsk) (cs : List Channel) (d : Channel) (o : Option Channel) → AllByRecursion IsFresh cs → channel_on (id_of d) cs ≡ o → channel_on (id_of d) (step_run ls cs).channels ≡ Some d → KeepsHeadline ls (step_run ls cs).replies d
left_headline ls cs d None new e found =
    let none : channel_on (id_of d) (step_run ls cs).channels ≡ channel_on (id_of d) (step_run ls []).channels = run_channel ls (id_of d) cs [] e in
    let empty : channel_on (id_of d) (step_run ls []).channels ≡ None = ap (channel_on (id_of d)) (no_channels ls) in
    let both : Some d ≡ None = sym found ∙ none ∙ empty in
    absurd cc
left_headline ls cs d (Some c) new e found =
    let has : (c.now ≡ fresh c.start) × (id_of c ≡ id_of d) = found_has IsFresh (id_of d) cs c new e in
    let test : (c.start.head.id == id_of d) ≡ true = eq-eqb (id_of c) (id_of d) has.1 in
    let alone : List Channel = fresh_channel c.start ∷ [] in
    let is : fresh_channel c.start ≡ c = λ k. record { start = c.start; now = sym has.0 k } in
    let first : channel_on (id_of d) alone ≡ Some (fresh_channel c.start) = rw test refl in
    let same : channel_on (id_of d) alone ≡ channel_on (id_of d) cs = first ∙ ap Some is ∙ sym e in
    let there : channel_on (id_of d) (step_run ls alone).channels ≡ Some d = run_channel ls (id_of d) alone cs same ∙ found in
    let kept : KeepsHeadline ls (step_run ls alone).replies d = (found_has (KeepsHeadline ls (step_run ls alone).replies) (id_of d) (step_run ls alone).channels d (run_headlines c.start ls) there).0 in
    other_replies ls (step_run ls alone).replies (step_run ls cs).replies d (run_sees ls (id_of d) alone cs same) kept

-- the journals of fresh channels with distinct IDs keep the headline
pub fresh_headlines : (cs : List Channel) → AllByRecursion IsFresh cs → AreDistinct (map id_of cs) → (ls : List LineAsk) → AreHeadlines ls (step_run ls cs)
fresh_headlines cs new apart ls =
    let r : Run = step_run ls cs in
    let left : AreDistinct (map id_of r.channels) = subst AreDistinct (sym (run_ids ls cs)) apart in
    all_from (KeepsHeadline ls r.replies) r.channels (λ i d at. left_headline ls cs d (channel_on (id_of d) cs) new refl (channel_at r.channels i d left at))

-- no two have one ID
abbrev pub HasDistinctIds : List ChannelStart → Type 0
HasDistinctIds starts = AreDistinct (map (λ s. s.head.id) starts)

all_fresh : (starts : List ChannelStart) → AllByRecursion IsFresh (map fresh_channel starts)
all_fresh [] = tt
all_fresh (s ∷ ss) = (refl, all_fresh ss)

pub run_headlines_all : (starts : List ChannelStart) → HasDistinctIds starts → (ls : List LineAsk) → AreHeadlines ls (step_run ls (map fresh_channel starts))
run_headlines_all starts apart ls = fresh_headlines (map fresh_channel starts) (all_fresh starts) (subst AreDistinct (sym (map_map id_of fresh_channel starts)) apart) ls

-- ---- the channels of a script

pub has_structure : (d : Device) (b : Bool) (o : Option Subspace) → structure_fault d b o ≡ None → (u : Subspace) × (o ≡ Some u)
has_structure d b None h = absurd cc
has_structure d b (Some u) h = (u, refl)

-- no ID is opened twice
pub opens_apart : (t : Table) (opens : List OpenLine) → AllOpen t opens (length opens) → AreDistinct (map (λ o. o.id) opens)
opens_apart t [] h = tt
opens_apart t (o ∷ os) h = (all_map (λ m. o.id ≢ m) (λ (p : OpenLine). p.id) os (all_from (λ (p : OpenLine). o.id ≢ p.id) os (once t o os h)), opens_apart t os (open_rest t o os h))
