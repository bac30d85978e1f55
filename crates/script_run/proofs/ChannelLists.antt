-- The channels of the opened subspaces, one by one.
use Rattle.std.proofs.Common.{◌≡◌, ◌≢◌, ℕ, zero, suc, ◌+◌, ◌-◌, ◌^◌, ◌<◌, ◌≤◌, ◌==◌, ◌||◌, Bool, true, false, cond, List, [], ◌∷◌, ◌++◌, length, get_or, map, set, take, drop, refl, sym, ap, ◌∙◌, subst, arith}
use Rattle.std.specs.Prelude.{Option, Some, None, nat_lt, slice_get}
use Rattle.std.specs.List.{AllByRecursion, flat_map}
use Rattle.std.proofs.lemmas.Bool.Decides.{nat_tests}
use Rattle.std.proofs.lemmas.List.{append-nil, append_assoc, drop_all, drop_more, length-map, length-take, map-append, map-set, take_all, take_more}
use Rattle.std.proofs.lemmas.List.Concat.{flat_map-append}
use Rattle.std.proofs.lemmas.Option.{slice_get-get_or, slice_get_within}
use Rattle.std.proofs.Math.Seq.{get_or-append_seam, set-append_seam}
use Rattle.pcc_journal.specs.Records.{times_of}
use Rattle.pcc_script.specs.declared.scenario.Line.{Line}
use Rattle.pcc_script.specs.declared.scenario.Line.TheVariants as line
use Rattle.pcc_script.specs.declared.scenario.Wish1.{Wish1}
use Rattle.pcc_setup.specs.declared.opening.Opened.{Opened}
use Rattle.rate_limit.specs.RateLimits.{earliest_of}
use Rattle.cpc_package.specs.declared.binding.Binding.{Binding}
use Rattle.cppc_calls.specs.Wishes.{wish_fault}
use Rattle.cppc_calls.specs.declared.wish.SetRefusal.{SetRefusal}
use Rattle.channel_turns.specs.ChannelRuns.{Answered, Call, Channel, ChannelStart, ChannelState, InFlight, Polled, after_polls, answer_unless, call_by, next_reading, polled, polled_for, post_call, refusal_of}
use Rattle.channel_turns.specs.Replies.{Reply}
use Rattle.channel_headline.specs.WishCalls.{LineAnswer as AnsweredLine, WishCall, post_wish, whole_call, wish_after, wish_refusal, wish_unless}
use Rattle.script_run.specs.Channels.{AreDistinct, CanAsk, CanRun, IsEarly, IsAnsweredBy, IsWired, Suits, id_of, ids_of, is_on, moved_up, starts_of}
use Rattle.script_run.specs.DeviceChannels.{channel_of, channels_by}
use Rattle.script_run.specs.declared.channel.DeviceChannel.{DeviceChannel}
use Rattle.script_run.specs.declared.outcome.LineAnswer.{LineAnswer}
use Rattle.script_run.specs.LineOutcomes.{IsOutcomeOf, IsPlacedIn, IsShownAs}
use Rattle.script_run.specs.ScriptRuns.{channel_journal}
use Rattle.script_run.specs.StepRun.{Ask, Asks, LineAsk, Moves, OfCall, OfRead, OfWish, Shown, ShownReply, Turn, answer, ask_of, ask_of_cpu, asked_on, call_of, turn_of, wish_of}
use Rattle.pcc_text.proofs.Mapped.{mapped_more}
use Rattle.script_run.proofs.Several.{call_at, channels_waited, turn_starts}

-- what holds of all items holds of the one at a place
pub item_here : {X : Type 0} (P : X → Type 0) (xs : List X) (i : ℕ) (x : X) → AllByRecursion P xs → i < length xs → x ≡ get_or xs i x → P x
item_here P [] i x h lt e = absurd (omega (arith, lt))
item_here P (y ∷ ys) zero x h lt e = subst P (sym e) h.0
item_here P (y ∷ ys) (suc i) x h lt e = item_here P ys i x h.1 (omega (arith, lt)) e

pub wired_at : (os : List Opened) (i : ℕ) (o : Opened) → AllByRecursion IsWired os → i < length os → o ≡ get_or os i o → IsWired o
wired_at os i o h lt e = item_here IsWired os i o h lt e

-- ---- channels by device, as channels

get_by : (ds : List DeviceChannel) (i : ℕ) (d : DeviceChannel) → d ≡ get_or ds i d → channel_of d ≡ get_or (channels_by ds) i (channel_of d)
get_by ds i d e = ap channel_of e ∙ each ds i
  where
    each : (xs : List DeviceChannel) (k : ℕ) → channel_of (get_or xs k d) ≡ get_or (channels_by xs) k (channel_of d)
    each [] k = refl
    each (x ∷ xs) zero = refl
    each (x ∷ xs) (suc k) = each xs k

within_by : (ds : List DeviceChannel) (i : ℕ) → i < length ds → i < length (channels_by ds)
within_by ds i lt = let n : length (channels_by ds) ≡ length ds = length-map ds channel_of in omega (arith, lt, n)

-- one channel more is opened
pub opened_more : (f : Opened → Channel) (os : List Opened) (ds next : List DeviceChannel) (i : ℕ) (o : Opened) (d : DeviceChannel) → i < length os → o ≡ get_or os i o → next ≡ ds ++ d ∷ [] → channel_of d ≡ f o
    → channels_by ds ≡ map f (take i os) → channels_by next ≡ map f (take (i + 1) os)
opened_more f os ds next i o d lt is e of h =
    mapped_more f os (channels_by ds) (channels_by next) i o lt is (ap channels_by e ∙ map-append channel_of ds (d ∷ []) ∙ ap (λ (c : Channel). channels_by ds ++ c ∷ []) of) h

-- ---- the place of an ID

abbrev pub Has : ℕ → List DeviceChannel → Type 0
Has id ds = is_on id (starts_of (channels_by ds)) ≡ true

pub rest_starts : (id : ℕ) (ds : List DeviceChannel) → Has id ds → Has id (drop 0 ds)
rest_starts id ds h = h

rest_of : (b c : Bool) → (b || c) ≡ true → b ≡ false → c ≡ true
rest_of true c h e = absurd cc
rest_of false c h e = h

pub rest_has : (id : ℕ) (ds : List DeviceChannel) (i : ℕ) (d : DeviceChannel) → i < length ds → d ≡ get_or ds i d → id_of (channel_of d) ≢ id → Has id (drop i ds) → Has id (drop (i + 1) ds)
rest_has id ds i d lt is ne h =
    let front : drop i ds ≡ d ∷ drop (i + 1) ds = drop_more ds i d lt ∙ ap (λ (x : DeviceChannel). x ∷ drop (i + 1) ds) (sym is) in
    let differs : (id_of (channel_of d) == id) ≡ false = grind (arith, nat_tests) in
    rest_of (id_of (channel_of d) == id) (is_on id (starts_of (channels_by (drop (i + 1) ds)))) (subst (Has id) front h) differs

pub rest_ends : (id : ℕ) (ds : List DeviceChannel) (i : ℕ) → length ds ≤ i → Has id (drop i ds) → ⊥
rest_ends id ds i le h = let none : Has id [] = subst (Has id) (drop_all i ds le) h in absurd cc

pub stands_at : (ds : List DeviceChannel) (i id : ℕ) (d : DeviceChannel) → i < length ds → d ≡ get_or ds i d → id_of (channel_of d) ≡ id → (x : DeviceChannel) → slice_get ds i ≡ Some x → id_of (channel_of x) ≡ id
stands_at ds i id d lt is named x e =
    let at : slice_get ds i ≡ Some d = slice_get-get_or ds i d lt ∙ ap Some (sym is) in
    let same : x ≡ d = cc in
    ap (λ (y : DeviceChannel). id_of (channel_of y)) same ∙ named

-- ---- added time

-- the clocks of the Banks before a place were moved up
abbrev pub moved_to : ℕ → ℕ → List Channel → List Channel
moved_to n i bs = map (moved_up n) (take i bs) ++ drop i bs

pub moved_start : (n : ℕ) (bs : List Channel) → bs ≡ moved_to n 0 bs
moved_start n bs = refl

channels_more : (n : ℕ) (bs now : List Channel) (i : ℕ) (b new : Channel) → i < length bs → now ≡ moved_to n i bs → b ≡ get_or now i b → new ≡ moved_up n b → set now i new ≡ moved_to n (i + 1) bs
channels_more n bs now i b new lt e is waited =
    let front : List Channel = map (moved_up n) (take i bs) in
    let back : List Channel = drop (i + 1) bs in
    let here : drop i bs ≡ get_or bs i b ∷ back = drop_more bs i b lt in
    let count : length front ≡ i = length-map (take i bs) (moved_up n) ∙ length-take-all i bs lt in
    let whole : now ≡ front ++ get_or bs i b ∷ back = e ∙ ap (λ (v : List Channel). front ++ v) here in
    let same : b ≡ get_or bs i b = is ∙ ap (λ (v : List Channel). get_or v i b) whole ∙ ap (λ (k : ℕ). get_or (front ++ get_or bs i b ∷ back) k b) (sym count) ∙ get_or-append_seam front (get_or bs i b) back b in
    ap (λ (v : List Channel). set v i new) whole ∙ ap (λ (k : ℕ). set (front ++ get_or bs i b ∷ back) k new) (sym count) ∙ set-append_seam front (get_or bs i b) back new
    ∙ ap (λ (x : Channel). front ++ x ∷ back) (waited ∙ ap (moved_up n) same)
    ∙ sym (append_assoc front (moved_up n (get_or bs i b) ∷ []) back)
    ∙ ap (λ (v : List Channel). v ++ back) (sym (map-append (moved_up n) (take i bs) (get_or bs i b ∷ [])) ∙ ap (map (moved_up n)) (sym (take_more bs i b lt)))
  where
    length-take-all : (i : ℕ) (bs : List Channel) → i < length bs → length (take i bs) ≡ i
    length-take-all i bs lt = omega (arith, length-take i bs)

pub moved_more : (n : ℕ) (ds now : List DeviceChannel) (i : ℕ) (d new : DeviceChannel) → i < length ds → channels_by now ≡ moved_to n i (channels_by ds) → d ≡ get_or now i d → channel_of new ≡ moved_up n (channel_of d)
    → channels_by (set now i new) ≡ moved_to n (i + 1) (channels_by ds)
moved_more n ds now i d new lt e is waited = map-set channel_of now i new ∙ channels_more n (channels_by ds) (channels_by now) i (channel_of d) (channel_of new) (within_by ds i lt) e (get_by now i d is) waited

pub moved_end : (n : ℕ) (ds : List DeviceChannel) (now : List Channel) (i : ℕ) → length ds ≤ i → now ≡ moved_to n i (channels_by ds) → now ≡ map (moved_up n) (channels_by ds)
moved_end n ds now i le h =
    let m : length (channels_by ds) ≡ length ds = length-map ds channel_of in
    let most : length (channels_by ds) ≤ i = omega (arith, le, m) in
    h ∙ (λ k. map (moved_up n) (take_all i (channels_by ds) most k) ++ drop_all i (channels_by ds) most k) ∙ append-nil (map (moved_up n) (channels_by ds))

-- ---- what a line asks

-- what becomes of an ask on the channel at a place
abbrev pub Turned : LineAsk → List DeviceChannel → ℕ → DeviceChannel → LineAnswer → Type 0
Turned l ds i new reported = (reply : ShownReply) × (turn_of l (channels_by ds) ≡ record { reply = Some reply; channels = channels_by (set ds i new) }) × IsShownAs (channel_of new).now.records reported reply

pub turned : (l : LineAsk) (ds : List DeviceChannel) (i : ℕ) (d new : DeviceChannel) (id : ℕ) (ask : Ask) (reported : LineAnswer) → l ≡ Asks id ask
    → AreDistinct (ids_of (channels_by ds)) → i < length ds → d ≡ get_or ds i d
    → ((x : DeviceChannel) → slice_get ds i ≡ Some x → id_of (channel_of x) ≡ id)
    → IsAnsweredBy (channel_of d) ask (channel_of new) reported → Turned l ds i new reported
turned l ds i d new id ask reported is apart lt at named answered =
    let c : Channel = channel_of d in
    let cs : List Channel = channels_by ds in
    let a : Shown = answer c.start ask c.now in
    let here : slice_get cs i ≡ Some c = slice_get-get_or cs i c (within_by ds i lt) ∙ ap Some (sym (get_by ds i d at)) in
    let same : id_of c ≡ id = named d (slice_get-get_or ds i d lt ∙ ap Some (sym at)) in
    let P : Channel → Type 0 = λ x. IsShownAs x.now.records reported a.reply in (
      a.reply,
      ap (λ (x : LineAsk). turn_of x cs) is ∙ ap (λ (n : ℕ). asked_on n ask cs) (sym same) ∙ call_at ask cs i c apart here
          ∙ ap (λ (x : Channel). record { reply = Some a.reply; channels = set cs i x }) (sym answered.left)
          ∙ ap (λ (v : List Channel). record { reply = Some a.reply; channels = v }) (sym (map-set channel_of ds i new)),
      subst P (sym answered.left) answered.reply,
    )

-- a call, whose bytes are given as a list of their own
pub call_asks : (cpus : List Binding) (action : Line) (worker subspace code : ℕ) (bytes given : List ℕ) (polls hold : ℕ) → action ≡ line.Call worker subspace code bytes polls hold → given ≡ bytes
    → ask_of cpus action ≡ Asks subspace (OfCall (call_by worker code given polls hold))
call_asks cpus action worker subspace code bytes given polls hold is same = ap (ask_of cpus) is ∙ ap (λ (v : List ℕ). Asks subspace (OfCall (call_by worker code v polls hold))) (sym same)

-- a processor that is named is there
pub cpu_there : (starts : List ChannelStart) (cpus : List Binding) (cpu : ℕ) (f : Binding → Ask) → CanAsk starts (ask_of_cpu (slice_get cpus cpu) f) → cpu < length cpus
cpu_there starts cpus cpu f h = by (slice_get cpus cpu) refl h
  where
    by : (o : Option Binding) → slice_get cpus cpu ≡ o → CanAsk starts (ask_of_cpu o f) → cpu < length cpus
    by None e k = absurd k
    by (Some b) e k = slice_get_within cpus cpu b e

-- the processor suits the channel at a place
pub suits_at : (ds : List DeviceChannel) (i id : ℕ) (d : DeviceChannel) (ask : Ask) → AllByRecursion (λ s. s.head.id ≡ id → Suits s.head.room ask) (starts_of (channels_by ds)) → i < length ds → d ≡ get_or ds i d
    → id_of (channel_of d) ≡ id → Suits (channel_of d).start.head.room ask
suits_at [] i id d ask h lt e is = absurd (omega (arith, lt))
suits_at (x ∷ xs) zero id d ask h lt e is = subst (λ (y : DeviceChannel). id_of (channel_of y) ≡ id → Suits (channel_of y).start.head.room ask) (sym e) h.0 is
suits_at (x ∷ xs) (suc i) id d ask h lt e is = suits_at xs i id d ask h.1 (omega (arith, lt)) e is

-- a line of a processor, which suits the channel of its subspace
pub record IsOfCpu (cpus : List Binding) (ds : List DeviceChannel) (l : LineAsk) (binding : Binding) (ask : Ask) (place : ℕ) (d : DeviceChannel) : Type 0 where
  pub asks : l ≡ Asks binding.subspace ask
  pub suits : Suits (channel_of d).start.head.room ask

of_cpu : (cpus : List Binding) (ds : List DeviceChannel) (l : LineAsk) (cpu : ℕ) (none : Binding) (f : Binding → Ask) (id place : ℕ) (d : DeviceChannel) → l ≡ ask_of_cpu (slice_get cpus cpu) f
    → CanAsk (starts_of (channels_by ds)) l → id ≡ (get_or cpus cpu none).subspace → place < length ds → d ≡ get_or ds place d
    → ((x : DeviceChannel) → slice_get ds place ≡ Some x → id_of (channel_of x) ≡ id)
    → IsOfCpu cpus ds l (get_or cpus cpu none) (f (get_or cpus cpu none)) place d
of_cpu cpus ds l cpu none f id place d is can e lt at named =
    let starts : List ChannelStart = starts_of (channels_by ds) in
    let b : Binding = get_or cpus cpu none in
    let within : cpu < length cpus = cpu_there starts cpus cpu f (subst (CanAsk starts) is can) in
    let asks : l ≡ Asks b.subspace (f b) = is ∙ ap (λ (o : Option Binding). ask_of_cpu o f) (slice_get-get_or cpus cpu none within) in
    let h : CanAsk starts (Asks b.subspace (f b)) = subst (CanAsk starts) asks can in
    record { asks = asks; suits = suits_at ds place b.subspace d (f b) h.1 lt at (named d (slice_get-get_or ds place d lt ∙ ap Some (sym at)) ∙ e) }

pub of_read : (cpus : List Binding) (ds : List DeviceChannel) (action : Line) (worker cpu polls hold : ℕ) (none : Binding) (id place : ℕ) (d : DeviceChannel) → action ≡ line.Read worker cpu polls hold
    → CanAsk (starts_of (channels_by ds)) (ask_of cpus action) → id ≡ (get_or cpus cpu none).subspace → place < length ds → d ≡ get_or ds place d
    → ((x : DeviceChannel) → slice_get ds place ≡ Some x → id_of (channel_of x) ≡ id)
    → let b = get_or cpus cpu none in IsOfCpu cpus ds (ask_of cpus action) b (OfRead (record { caller = worker; binding = b; polls = polls; hold = hold })) place d
of_read cpus ds action worker cpu polls hold none id place d is can e lt at named =
    of_cpu cpus ds (ask_of cpus action) cpu none (λ b. OfRead (record { caller = worker; binding = b; polls = polls; hold = hold })) id place d (ap (ask_of cpus) is) can e lt at named

pub of_set : (cpus : List Binding) (ds : List DeviceChannel) (action : Line) (worker : ℕ) (wish : Wish1) (polls hold : ℕ) (none : Binding) (id place : ℕ) (d : DeviceChannel) → action ≡ line.Set worker wish polls hold
    → CanAsk (starts_of (channels_by ds)) (ask_of cpus action) → id ≡ (get_or cpus wish.cpu none).subspace → place < length ds → d ≡ get_or ds place d
    → ((x : DeviceChannel) → slice_get ds place ≡ Some x → id_of (channel_of x) ≡ id)
    → let b = get_or cpus wish.cpu none in IsOfCpu cpus ds (ask_of cpus action) b (OfWish (record { caller = worker; binding = b; wish = wish_of wish; polls = polls; hold = hold })) place d
of_set cpus ds action worker wish polls hold none id place d is can e lt at named =
    of_cpu cpus ds (ask_of cpus action) wish.cpu none (λ b. OfWish (record { caller = worker; binding = b; wish = wish_of wish; polls = polls; hold = hold })) id place d (ap (ask_of cpus) is) can e lt at named

-- its processor is there, on one of the channels
pub set_there : (starts : List ChannelStart) (cpus : List Binding) (action : Line) (worker : ℕ) (wish : Wish1) (polls hold : ℕ) (none : Binding) → action ≡ line.Set worker wish polls hold
    → CanAsk starts (ask_of cpus action) → (wish.cpu < length cpus) × (is_on (get_or cpus wish.cpu none).subspace starts ≡ true)
set_there starts cpus action worker wish polls hold none is can =
    let f : Binding → Ask = λ b. OfWish (record { caller = worker; binding = b; wish = wish_of wish; polls = polls; hold = hold }) in
    let h : CanAsk starts (ask_of_cpu (slice_get cpus wish.cpu) f) = subst (λ (l : Line). CanAsk starts (ask_of cpus l)) is can in
    let lt : wish.cpu < length cpus = cpu_there starts cpus wish.cpu f h in
    let k : CanAsk starts (Asks (get_or cpus wish.cpu none).subspace (f (get_or cpus wish.cpu none))) = subst (λ (o : Option Binding). CanAsk starts (ask_of_cpu o f)) (slice_get-get_or cpus wish.cpu none lt) h in
    (lt, k.0)

set_here : (ds : List DeviceChannel) (i : ℕ) (d : DeviceChannel) → i < length ds → slice_get (set ds i d) i ≡ Some d
set_here [] i d lt = absurd (omega (arith, lt))
set_here (x ∷ xs) zero d lt = refl
set_here (x ∷ xs) (suc i) d lt = set_here xs i d (omega (arith, lt))

-- its outcome
pub outcome_of : (l : LineAsk) (ds : List DeviceChannel) (i : ℕ) (new : DeviceChannel) (reported : LineAnswer) → i < length ds → IsPlacedIn (length (channel_of new).now.records) reported → Turned l ds i new reported
    → IsOutcomeOf (turn_of l (channels_by ds)).reply (set ds i new) (Some (record { place = i; answer = reported }))
outcome_of l ds i new reported lt placed t = (new, set_here ds i new lt, placed, (t.0, ap (λ (x : Turn). x.reply) t.1, t.2))

pub ask_channels : (l : LineAsk) (ds : List DeviceChannel) (i : ℕ) (new : DeviceChannel) (reported : LineAnswer) → Turned l ds i new reported → (turn_of l (channels_by ds)).channels ≡ channels_by (set ds i new)
ask_channels l ds i new reported t = ap (λ (x : Turn). x.channels) t.1

-- an ask adds no time
module _ (start : ChannelStart) (added : ℕ) where
  abbrev Keeps : ChannelState → Type 0
  Keeps now = now.added ≡ added

  choose : (b : Bool) (x y : Answered) → Keeps x.now → Keeps y.now → Keeps (cond b x y).now
  choose true x y h k = h
  choose false x y h k = k

  posted : (call : Call) (now : ChannelState) → Keeps now → Keeps (post_call start call now).now
  posted call now e = choose (nat_lt (next_reading start now) (earliest_of start.head.limits (times_of now.records))) _ _ e (choose (nat_lt call.hold call.polls) _ _ e e)

  polls_keep : (polls : ℕ) (now : ChannelState) (o : Option InFlight) → Keeps now → Keeps (polled_for start polls now o).now
  polls_keep polls now None e = e
  polls_keep polls now (Some p) e = which (nat_lt p.left polls) _ _ e e
    where
      which : (b : Bool) (x y : Polled) → Keeps x.now → Keeps y.now → Keeps (cond b x y).now
      which true x y h k = h
      which false x y h k = k

  called_keeps : (call : Call) (now : ChannelState) (o : Option Reply) → Keeps now → Keeps (answer_unless start call now o).now
  called_keeps call now (Some r) e = e
  called_keeps call now None e = after (polled start call.polls now) (polls_keep call.polls now now.in_flight e)
    where
      after : (p : Polled) → Keeps p.now → Keeps (after_polls start call p).now
      after p k = choose p.free _ _ (posted call p.now k) k

  wish_keeps : (w : WishCall) (now : ChannelState) (o : Option Reply) → Keeps now → Keeps (wish_unless start w now o).now
  wish_keeps w now (Some r) e = e
  wish_keeps w now None e = after (polled start w.polls now) (polls_keep w.polls now now.in_flight e)
    where
      put : (now : ChannelState) (o : Option SetRefusal) → Keeps now → Keeps (post_wish start w now o).now
      put now (Some why) k = k
      put now None k = posted (whole_call w now.object.space) now k

      which : (b : Bool) (x y : AnsweredLine) → Keeps x.now → Keeps y.now → Keeps (cond b x y).now
      which true x y h k = h
      which false x y h k = k

      after : (p : Polled) → Keeps p.now → Keeps (wish_after start w p).now
      after p k = which p.free _ _ (put p.now (wish_fault w.binding p.now.object.space w.wish) k) k

same_added : (start : ChannelStart) (ask : Ask) (now : ChannelState) → (answer start ask now).now.added ≡ now.added
same_added start (OfCall call) now = called_keeps start now.added call now (refusal_of start.head call now) refl
same_added start (OfRead r) now = called_keeps start now.added (call_of r) now (refusal_of start.head (call_of r) now) refl
same_added start (OfWish w) now = wish_keeps start now.added w now (wish_refusal start.head now) refl

-- what holds of the Banks holds with another one at a place
all_set : (P : Channel → Type 0) (bs : List Channel) (i : ℕ) (b : Channel) → AllByRecursion P bs → P b → AllByRecursion P (set bs i b)
all_set P [] i b h k = tt
all_set P (x ∷ xs) zero b h k = (k, h.1)
all_set P (x ∷ xs) (suc i) b h k = (h.0, all_set P xs i b h.1 k)

all_more : (P Q : Channel → Type 0) (bs : List Channel) → ((b : Channel) → P b → Q b) → AllByRecursion P bs → AllByRecursion Q bs
all_more P Q [] f h = tt
all_more P Q (b ∷ bs) f h = (f b h.0, all_more P Q bs f h.1)

later : (count : ℕ) (b : Channel) → IsEarly count b → IsEarly (count + 1) b
later count b h = let t = h.taken in let a = h.added in record { taken = omega (arith, t); added = omega (arith, a) }

-- three readings more, and no added time
pub ask_early : (ds : List DeviceChannel) (i : ℕ) (d new : DeviceChannel) (ask : Ask) (reported : LineAnswer) (count : ℕ) → i < length ds → d ≡ get_or ds i d → IsAnsweredBy (channel_of d) ask (channel_of new) reported
    → (channel_of new).now.taken ≤ (channel_of d).now.taken + 3 → AllByRecursion (IsEarly count) (channels_by ds) → AllByRecursion (IsEarly (count + 1)) (channels_by (set ds i new))
ask_early ds i d new ask reported count lt is answered few h =
    let c : Channel = channel_of d in
    let cs : List Channel = channels_by ds in
    let here : IsEarly count c = item_here (IsEarly count) cs i c h (within_by ds i lt) (get_by ds i d is) in
    let added : (channel_of new).now.added ≡ c.now.added = ap (λ (x : Channel). x.now.added) answered.left ∙ same_added c.start ask c.now in
    let t = here.taken in
    let a = here.added in
    subst (AllByRecursion (IsEarly (count + 1))) (sym (map-set channel_of ds i new))
    (all_set (IsEarly (count + 1)) cs i (channel_of new) (all_more (IsEarly count) (IsEarly (count + 1)) cs (later count) h) (record { taken = omega (arith, t, few); added = omega (arith, a, added) }))

-- so few readings were given
pub early_at : (ds : List DeviceChannel) (i : ℕ) (d : DeviceChannel) → i < length ds → d ≡ get_or ds i d → AllByRecursion (IsEarly 65536) (channels_by ds) → (channel_of d).now.taken < 2 ^ 63
early_at ds i d lt is h =
    let here : IsEarly 65536 (channel_of d) = item_here (IsEarly 65536) (channels_by ds) i (channel_of d) h (within_by ds i lt) (get_by ds i d is) in
    let t = here.taken in
    omega (arith, t)

pub ask_starts : (ds : List DeviceChannel) (i : ℕ) (d new : DeviceChannel) → i < length ds → d ≡ get_or ds i d → (channel_of new).start ≡ (channel_of d).start → starts_of (channels_by (set ds i new)) ≡ starts_of (channels_by ds)
ask_starts [] i d new lt is e = absurd (omega (arith, lt))
ask_starts (x ∷ xs) zero d new lt is e = ap (λ (s : ChannelStart). s ∷ starts_of (channels_by xs)) (e ∙ ap (λ (y : DeviceChannel). (channel_of y).start) is)
ask_starts (x ∷ xs) (suc i) d new lt is e = ap (λ (v : List ChannelStart). (channel_of x).start ∷ v) (ask_starts xs i d new (omega (arith, lt)) is e)

-- ---- a `wait` line

wait_fits : (n : ℕ) (bs : List Channel) → n ≤ 2 ^ 64 - 1 → AllByRecursion (IsEarly 65536) bs → AllByRecursion (λ b. b.now.added + n < 2 ^ 128) bs
wait_fits n [] le h = tt
wait_fits n (b ∷ bs) le h = let a = h.0.added in (omega (arith, a, le), wait_fits n bs le h.1)

pub wait_turn : (n : ℕ) (cs now : List Channel) → n ≤ 2 ^ 64 - 1 → AllByRecursion (IsEarly 65536) cs → now ≡ map (moved_up n) cs → (turn_of (Moves n) cs).channels ≡ now
wait_turn n cs now le early e = channels_waited n cs (wait_fits n cs le early) ∙ sym e

pub wait_starts : (n : ℕ) (cs now : List Channel) → now ≡ map (moved_up n) cs → starts_of now ≡ starts_of cs
wait_starts n cs now e = ap starts_of e ∙ same cs
  where
    same : (xs : List Channel) → starts_of (map (moved_up n) xs) ≡ starts_of xs
    same [] = refl
    same (x ∷ xs) = ap (λ (v : List ChannelStart). x.start ∷ v) (same xs)

pub wait_early : (n : ℕ) (bs now : List Channel) (count : ℕ) → now ≡ map (moved_up n) bs → n ≤ 2 ^ 64 - 1 → AllByRecursion (IsEarly count) bs → AllByRecursion (IsEarly (count + 1)) now
wait_early n bs now count e le h = subst (AllByRecursion (IsEarly (count + 1))) (sym e) (all bs h)
  where
    all : (xs : List Channel) → AllByRecursion (IsEarly count) xs → AllByRecursion (IsEarly (count + 1)) (map (moved_up n) xs)
    all [] h = tt
    all (x ∷ xs) h = let t = h.0.taken in let a = h.0.added in (record { taken = omega (arith, t); added = omega (arith, a, le) }, all xs h.1)

-- ---- journals

pub one_more_journal : (ds : List DeviceChannel) (i : ℕ) (d : DeviceChannel) (text put next : List ℕ) → i < length ds → d ≡ get_or ds i d → next ≡ put ++ channel_journal (channel_of d)
    → put ≡ text ++ flat_map channel_journal (channels_by (take i ds)) → next ≡ text ++ flat_map channel_journal (channels_by (take (i + 1) ds))
one_more_journal ds i d text put next lt is e h =
    let c : Channel = channel_of d in
    let front : List Channel = channels_by (take i ds) in
    let taken : channels_by (take (i + 1) ds) ≡ front ++ c ∷ [] = ap channels_by (take_more ds i d lt ∙ ap (λ (x : DeviceChannel). take i ds ++ x ∷ []) (sym is)) ∙ map-append channel_of (take i ds) (d ∷ []) in
    e ∙ ap (λ (v : List ℕ). v ++ channel_journal c) h ∙ append_assoc text (flat_map channel_journal front) (channel_journal c)
    ∙ ap (λ (v : List ℕ). text ++ (flat_map channel_journal front ++ v)) (sym (append-nil (channel_journal c)))
    ∙ ap (λ (v : List ℕ). text ++ v) (sym (flat_map-append channel_journal front (c ∷ [])) ∙ ap (flat_map channel_journal) (sym taken))

-- ---- between lines

-- the starts stay, so the channels can run the next line too
pub can_still : (cpus : List Binding) (begin cs : List Channel) (ls : List Line) (i : ℕ) (l : Line) → AllByRecursion (CanRun cpus (starts_of begin)) ls → i < length ls → l ≡ get_or ls i l → starts_of cs ≡ starts_of begin → CanRun cpus (starts_of cs) l
can_still cpus begin cs ls i l h lt is e = subst (λ (starts : List ChannelStart). CanRun cpus starts l) (sym e) (item_here (CanRun cpus (starts_of begin)) ls i l h lt is)

pub early_still : (cs : List Channel) (i : ℕ) → i < 65536 → AllByRecursion (IsEarly i) cs → AllByRecursion (IsEarly 65536) cs
early_still cs i lt h = all_more (IsEarly i) (IsEarly 65536) cs (λ c e. let t = e.taken in let a = e.added in record { taken = omega (arith, t, lt); added = omega (arith, a, lt) }) h

-- what a line leaves has the same starts
pub starts_left : (l : LineAsk) (begin cs next : List Channel) → (turn_of l cs).channels ≡ next → starts_of cs ≡ starts_of begin → starts_of next ≡ starts_of begin
starts_left l begin cs next left e = ap starts_of (sym left) ∙ turn_starts l cs ∙ e
