-- Processors, caps and ranges, one after the other.
use Rattle.std.proofs.Common.{◌≡◌, ◌≢◌, ℕ, zero, suc, ◌+◌, ◌<◌, ◌≤◌, ◌==◌, Bool, true, false, cond, List, [], ◌∷◌, ◌++◌, length, get_or, map, set, take, drop, refl, sym, ap, ◌∙◌, subst, arith}
use Rattle.std.specs.Prelude.{All, Result, Ok, Err, MatchBool, MatchResult, Option, Some, None, IfSome, filter, slice_get}
use Rattle.std.specs.List.{AllByRecursion}
use Rattle.std.proofs.lemmas.Bool.{eq-eqb, ne_eqb}
use Rattle.std.proofs.lemmas.List.{append-nil, append_assoc, drop_all, drop_more, get_or_default, length-drop, length-map, length-take, map-append, take-append-drop, take_all, take_more}
use Rattle.std.proofs.lemmas.List.Elements.{filter-append}
use Rattle.std.proofs.lemmas.Option.{slice_get_within}
use Rattle.std.proofs.Math.Seq.{get_or-append_seam, set-append_seam}
use Rattle.aml_pkg.specs.declared.item.Item.{Item}
use Rattle.cpc_package.specs.Bindings.{ShareBit, bind_fault, binding_of}
use Rattle.cpc_package.specs.Entries.{entries_of}
use Rattle.cpc_package.specs.Packages.{CpcBytes}
use Rattle.cpc_package.specs.declared.binding.Binding.{Binding}
use Rattle.cpc_package.specs.declared.entry.Entry.{Entry}
use Rattle.cppc_device.specs.Ranges.{Fits, InRange, IsStartOutside}
use Rattle.cppc_device.specs.declared.cap.Cap.{Cap}
use Rattle.cppc_device.specs.declared.range.StartOutside.{StartOutside}
use Rattle.pcc_script.specs.declared.scenario.CapLine.{CapLine}
use Rattle.pcc_setup.specs.declared.opening.Opened.{Opened}
use Rattle.pcc_setup.specs.declared.processor.CpuError.{CpuError}
use Rattle.pcc_setup.specs.declared.processor.CpuError.TheVariants as error
use Rattle.pcc_setup.specs.declared.refusal.CpuFault.{CpuFault}
use Rattle.pcc_setup.specs.declared.refusal.CpuFault.TheVariants as fault
use Rattle.pcc_setup.specs.declared.refusal.Refusal.TheVariants as refusal
use Rattle.pcc_setup.specs.Processors.{Alone, AreBound, Binds, CpuRefused, CpuWrong, FirstUnbound, FollowedBy, IfFault, IsShared, Misfit, Sharing, Unbound, controller_on, controls, entries_fault, fault_on, named_subspace, unfit}
use Rattle.pcc_setup.specs.Equipment.{AreCapsRight, CanLook, IsStarting, CapRefused, FirstCap, FirstOutside, StartInside, StartRefused, StartsInside, cap_of, caps_on, cpus_on, is_cap_right, registers_of}
use Rattle.pcc_setup.proofs.Bound.{BindsBeside, bound_more}
use Rattle.pcc_setup.proofs.FirstFaults.{some_same}
use Rattle.pcc_setup.proofs.Opens.{all_more, found}

-- ---- a controller by its ID

front_of : (os : List Opened) (i : ℕ) (o : Opened) → i < length os → o ≡ get_or os i o → drop i os ≡ o ∷ drop (i + 1) os
front_of os i o lt is = drop_more os i o lt ∙ ap (λ (x : Opened). x ∷ drop (i + 1) os) (sym is)

pub controller_more : (id : ℕ) (os : List Opened) (i : ℕ) (o : Opened) → i < length os → o ≡ get_or os i o → controls id o ≡ false → controller_on id (drop i os) ≡ controller_on id os
    → controller_on id (drop (i + 1) os) ≡ controller_on id os
controller_more id os i o lt is none before =
    sym (ap (λ (b : Bool). cond b (Some o) (controller_on id (drop (i + 1) os))) none) ∙ sym (ap (controller_on id) (front_of os i o lt is)) ∙ before

pub controller_hit : (id : ℕ) (os : List Opened) (i : ℕ) (o : Opened) → i < length os → o ≡ get_or os i o → controls id o ≡ true → controller_on id (drop i os) ≡ controller_on id os
    → (x : Opened) × (slice_get os i ≡ Some x) × (controller_on id os ≡ Some x)
controller_hit id os i o lt is one before = (
  o,
  found os i o lt is,
  sym before ∙ ap (controller_on id) (front_of os i o lt is) ∙ ap (λ (b : Bool). cond b (Some o) (controller_on id (drop (i + 1) os))) one,
)

pub controller_end : (id : ℕ) (os : List Opened) (i : ℕ) → length os ≤ i → controller_on id (drop i os) ≡ controller_on id os → controller_on id os ≡ None
controller_end id os i le before = sym before ∙ ap (controller_on id) (drop_all i os le)

-- what a controller is found
pub if_some : (P : Opened → Type 0) (o : Option Opened) (x : Opened) → o ≡ Some x → P x → IfSome o P
if_some P None x e h = absurd cc
if_some P (Some y) x e h = let same : y ≡ x = some_same y x e in subst P (sym same) h

pub of_some : (P : Opened → Type 0) (o : Option Opened) (x : Opened) → o ≡ Some x → IfSome o P → P x
of_some P None x e h = absurd cc
of_some P (Some y) x e h = let same : y ≡ x = some_same y x e in subst P same h

-- ---- the entries of a package

pub no_subspace : (os : List Opened) (entries : List Entry) → named_subspace entries ≡ None → entries_fault os entries ≡ Some fault.NotOpened
no_subspace os entries none = rw none refl

pub no_controller : (os : List Opened) (entries : List Entry) (id : ℕ) → named_subspace entries ≡ Some id → controller_on id os ≡ None
    → entries_fault os entries ≡ Some fault.NotOpened
no_controller os entries id named none = rw named (ap (fault_on entries) none)

pub bound_in : (os : List Opened) (entries : List Entry) (id : ℕ) (o : Opened) → named_subspace entries ≡ Some id → controller_on id os ≡ Some o
    → entries_fault os entries ≡ unfit (bind_fault entries o.wiring.room)
bound_in os entries id o named is = rw named (ap (fault_on entries) is)

-- ---- `cpu` lines

pub beside : (os : List Opened) (before : List Binding) (bytes : List ℕ) (b : Binding) → Binds os bytes b
    → ((k : ℕ) (d : Binding) → k < length before → ShareBit (get_or before k d) b → ⊥) → BindsBeside os before bytes b
beside os before bytes b binds apart = record { binds = binds; apart = apart }

pub cpu_more : (os : List Opened) (lines : List (List ℕ)) (before next : List Binding) (i : ℕ) (bytes : List ℕ) (b : Binding) → i < length lines → bytes ≡ get_or lines i bytes
    → AreBound os (take i lines) before → Binds os bytes b → ((k : ℕ) (d : Binding) → k < length before → ShareBit (get_or before k d) b → ⊥) → next ≡ before ++ b ∷ []
    → AreBound os (take (i + 1) lines) next
cpu_more os lines before next i bytes b lt is h binds apart pushed =
    let same : i + 1 ≡ suc i = omega arith in
    let more : AreBound os (take (suc i) lines) (before ++ b ∷ []) = bound_more os lines before i bytes b (found lines i bytes lt is) h (beside os before bytes b binds apart) in
    subst (λ (v : List Binding). AreBound os (take (i + 1) lines) v) (sym pushed) (subst (λ (n : ℕ). AreBound os (take n lines) (before ++ b ∷ [])) (sym same) more)

pub cpu_wrong : (os : List Opened) (lines : List (List ℕ)) (before : List Binding) (i : ℕ) (bytes : List ℕ) (f : CpuFault) → i < length lines → bytes ≡ get_or lines i bytes
    → AreBound os (take i lines) before → CpuWrong os before bytes f → CpuRefused os lines (refusal.Cpu i f)
cpu_wrong os lines before i bytes f lt is h wrong = FirstUnbound i bytes before f (found lines i bytes lt is) h wrong

pub cpus_end : (os : List Opened) (lines : List (List ℕ)) (cpus : List Binding) (i : ℕ) → length lines ≤ i → AreBound os (take i lines) cpus → AreBound os lines cpus
cpus_end os lines cpus i le h = subst (λ (v : List (List ℕ)). AreBound os v cpus) (take_all i lines le) h

-- more bytes follow a package
pub followed : (os : List Opened) (bytes : List ℕ) (len : ℕ) (p : Item) → CpcBytes (take len bytes) p → len < length bytes → Unbound os bytes (fault.Trailing len)
followed os bytes len p h lt =
    let n : length (take len bytes) ≡ len = omega (arith, length-take len bytes) in
    let some : 1 ≤ length (drop len bytes) = omega (arith, length-drop len bytes) in
    subst (λ (k : ℕ). Unbound os bytes (fault.Trailing k)) n (FollowedBy (take len bytes) (drop len bytes) p h (sym (take-append-drop len bytes)) some)

-- what becomes of a package, as what becomes of its bytes
pub bound_by : (os : List Opened) (bytes : List ℕ) (p : Item) (r : Result Binding CpuError) → CpcBytes bytes p
    → MatchResult r (λ b. (entries_fault os (entries_of p) ≡ None) × (b ≡ binding_of (entries_of p))) (IfFault (λ f. entries_fault os (entries_of p) ≡ Some f))
    → MatchResult r (Binds os bytes) (IfFault (Unbound os bytes))
bound_by os bytes p (Ok b) spelled h = record { cpc = p; spelled = spelled; fits = h.0; binding_is = h.1 }
bound_by os bytes p (Err (error.Fault f)) spelled h = Misfit p spelled f h
bound_by os bytes p (Err error.NoMemory) spelled h = tt

-- and beside the processors before
pub beside_by : (os : List Opened) (before : List Binding) (bytes : List ℕ) (c : Binding) (r : Result Binding CpuError) → Binds os bytes c
    → MatchResult r (λ b. (b ≡ c) × ((k : ℕ) (d : Binding) → k < length before → ShareBit (get_or before k d) c → ⊥)) (IfFault (IsShared before c))
    → MatchResult r (λ b. Binds os bytes b × ((k : ℕ) (d : Binding) → k < length before → ShareBit (get_or before k d) b → ⊥)) (IfFault (CpuWrong os before bytes))
beside_by os before bytes c (Ok b) binds h =
    let P : Binding → Type 0 = λ x. Binds os bytes x × ((k : ℕ) (d : Binding) → k < length before → ShareBit (get_or before k d) x → ⊥) in
    subst P (sym h.0) (binds, h.1)
beside_by os before bytes c (Err (error.Fault f)) binds h =
    subst (CpuWrong os before bytes) (sym h.1) (Sharing c binds h.0 h.2)
beside_by os before bytes c (Err error.NoMemory) binds h = tt

pub alone_error : (os : List Opened) (before : List Binding) (bytes : List ℕ) (e : CpuError) → IfFault (Unbound os bytes) e → IfFault (CpuWrong os before bytes) e
alone_error os before bytes (error.Fault f) h = Alone f h
alone_error os before bytes error.NoMemory h = tt

pub cpu_next : (os : List Opened) (lines : List (List ℕ)) (front before next : List Binding) (i : ℕ) (bytes x : List ℕ) (b : Binding) → i < length lines → bytes ≡ x
    → x ≡ get_or lines i x → front ≡ before → AreBound os (take i lines) before
    → Binds os bytes b × ((k : ℕ) (d : Binding) → k < length front → ShareBit (get_or front k d) b → ⊥) → next ≡ before ++ b ∷ [] → AreBound os (take (i + 1) lines) next
cpu_next os lines front before next i bytes x b lt read is same h binds pushed =
    let P : List Binding → Type 0 = λ v. (k : ℕ) (d : Binding) → k < length v → ShareBit (get_or v k d) b → ⊥ in
    cpu_more os lines before next i x b lt is h (subst (λ (v : List ℕ). Binds os v b) read binds.0) (subst P same binds.1) pushed

-- ---- caps

pub no_caps : (os : List Opened) (caps : List CapLine) → AreCapsRight os caps 0
no_caps os caps i c lt e = absurd (omega (arith, lt))

pub cap_more : (os : List Opened) (caps : List CapLine) (i : ℕ) (c : CapLine) → i < length caps → c ≡ get_or caps i c → is_cap_right os (take i caps) c ≡ true
    → AreCapsRight os caps i → AreCapsRight os caps (i + 1)
cap_more os caps i c lt is right before = all_more (λ k x. is_cap_right os (take k caps) x ≡ true) caps i c before (found caps i c lt is) right

pub cap_wrong : (os : List Opened) (caps : List CapLine) (i : ℕ) (c : CapLine) → i < length caps → c ≡ get_or caps i c → is_cap_right os (take i caps) c ≡ false
    → AreCapsRight os caps i → CapRefused os caps (refusal.Cap i)
cap_wrong os caps i c lt is wrong before = FirstCap i c (found caps i c lt is) before wrong

pub cap_next : (os : List Opened) (caps : List CapLine) (i : ℕ) (d : CapLine) → i < length caps → is_cap_right os (take i caps) (get_or caps i d) ≡ true
    → AreCapsRight os caps i → AreCapsRight os caps (i + 1)
cap_next os caps i d lt right before = cap_more os caps i (get_or caps i d) lt (get_or_default caps i d (get_or caps i d) lt) right before

pub cap_refused : (os : List Opened) (caps : List CapLine) (i : ℕ) (d : CapLine) → i < length caps → is_cap_right os (take i caps) (get_or caps i d) ≡ false
    → AreCapsRight os caps i → CapRefused os caps (refusal.Cap i)
cap_refused os caps i d lt wrong before = cap_wrong os caps i (get_or caps i d) lt (get_or_default caps i d (get_or caps i d) lt) wrong before

pub caps_end : (os : List Opened) (caps : List CapLine) (i : ℕ) → length caps ≤ i → AreCapsRight os caps i → AreCapsRight os caps (length caps)
caps_end os caps i le h j c lt at = h j c (omega (arith, le, lt)) at

-- ---- ranges

pub at_true : (b : Bool) (P Q : Type 0) → MatchBool b P Q → b ≡ true → P
at_true true P Q h e = h
at_true false P Q h e = absurd cc

pub at_false : (b : Bool) (P Q : Type 0) → MatchBool b P Q → b ≡ false → Q
at_false true P Q h e = absurd cc
at_false false P Q h e = h

pub no_starts : (os : List Opened) (cpus : List Binding) → StartInside os cpus 0
no_starts os cpus i b lt e = absurd (omega (arith, lt))

pub start_more : (os : List Opened) (cpus : List Binding) (i : ℕ) (b : Binding) → i < length cpus → b ≡ get_or cpus i b → StartsInside os b → StartInside os cpus i
    → StartInside os cpus (i + 1)
start_more os cpus i b lt is right before = all_more (λ k x. StartsInside os x) cpus i b before (found cpus i b lt is) right

pub start_wrong : (os : List Opened) (cpus : List Binding) (i : ℕ) (b : Binding) → i < length cpus → b ≡ get_or cpus i b → (StartsInside os b → ⊥) → StartInside os cpus i
    → StartRefused os cpus (refusal.Start i)
start_wrong os cpus i b lt is wrong before = FirstOutside i b (found cpus i b lt is) before wrong

pub start_next : (os : List Opened) (cpus : List Binding) (i : ℕ) (d : Binding) → i < length cpus → StartsInside os (get_or cpus i d) → StartInside os cpus i
    → StartInside os cpus (i + 1)
start_next os cpus i d lt right before = start_more os cpus i (get_or cpus i d) lt (get_or_default cpus i d (get_or cpus i d) lt) right before

pub start_refused : (os : List Opened) (cpus : List Binding) (i : ℕ) (d : Binding) → i < length cpus → (StartsInside os (get_or cpus i d) → ⊥) → StartInside os cpus i
    → StartRefused os cpus (refusal.Start i)
start_refused os cpus i d lt wrong before = start_wrong os cpus i (get_or cpus i d) lt (get_or_default cpus i d (get_or cpus i d) lt) wrong before

pub start_at : (os : List Opened) (cpus : List Binding) (i : ℕ) (d : Binding) → i < length cpus → AllByRecursion (IsStarting os) cpus → IsStarting os (get_or cpus i d)
start_at os cpus i d lt h = each cpus i lt h
  where
    each : (bs : List Binding) (n : ℕ) → n < length bs → AllByRecursion (IsStarting os) bs → IsStarting os (get_or bs n d)
    each [] n lt h = absurd (omega (arith, lt))
    each (b ∷ bs) zero lt h = h.0
    each (b ∷ bs) (suc n) lt h = each bs n (omega (arith, lt)) h.1

-- the registers of the controller that is found, and what is read of them
pub looked_at : (os : List Opened) (b : Binding) (place : ℕ) (x : Opened) → IsStarting os b
    → (o : Opened) × (slice_get os place ≡ Some o) × (controller_on b.subspace os ≡ Some o) → place < length os → x ≡ get_or os place x → CanLook b x
looked_at os b place x h stands lt is =
    let same : stands.0 ≡ x = some_same stands.0 x (sym stands.1 ∙ found os place x lt is) in
    subst (CanLook b) same (of_some (CanLook b) (controller_on b.subspace os) stands.0 stands.2 h)

pub stands_in : (os : List Opened) (id place : ℕ) → (o : Opened) × (slice_get os place ≡ Some o) × (controller_on id os ≡ Some o) → place < length os
stands_in os id place stands = slice_get_within os place stands.0 stands.1

pub one_fit : (len room : ℕ) (b : Binding) → Fits room b → len ≡ room → (k : ℕ) (d : Binding) → k < 1 → Fits len (get_or (b ∷ []) k d)
one_fit len room b h e zero d lt = subst (λ (n : ℕ). Fits n b) (sym e) h
one_fit len room b h e (suc k) d lt = absurd (omega (arith, lt))

-- all of one processor, or not
pub one_inside : (os : List Opened) (b : Binding) (place : ℕ) (x : Opened) (space : List ℕ)
    → (o : Opened) × (slice_get os place ≡ Some o) × (controller_on b.subspace os ≡ Some o) → place < length os → x ≡ get_or os place x → space ≡ registers_of x
    → All (λ c. InRange c space) (b ∷ []) → StartsInside os b
one_inside os b place x space stands lt is read h =
    let same : stands.0 ≡ x = some_same stands.0 x (sym stands.1 ∙ found os place x lt is) in
    let range : InRange b (registers_of x) = subst (InRange b) read (h 0 b (omega arith)) in
    if_some (λ o. InRange b (registers_of o)) (controller_on b.subspace os) x (stands.2 ∙ ap Some same) range

pub one_outside : (os : List Opened) (b : Binding) (place : ℕ) (x : Opened) (space : List ℕ) (outside : StartOutside)
    → (o : Opened) × (slice_get os place ≡ Some o) × (controller_on b.subspace os ≡ Some o) → place < length os → x ≡ get_or os place x → space ≡ registers_of x
    → IsStartOutside (b ∷ []) space outside → StartsInside os b → ⊥
one_outside os b place x space outside stands lt is read h inside =
    let same : stands.0 ≡ x = some_same stands.0 x (sym stands.1 ∙ found os place x lt is) in
    let range : InRange b (registers_of x) = of_some (λ o. InRange b (registers_of o)) (controller_on b.subspace os) x (stands.2 ∙ ap Some same) inside in
    let here : outside.cpu ≡ 0 = let lt : outside.cpu < 1 = h.within in omega (arith, lt) in
    let out : InRange (get_or (b ∷ []) 0 b) space → ⊥ = subst (λ (n : ℕ). InRange (get_or (b ∷ []) n b) space → ⊥) here (h.out b) in
    out (subst (InRange b) (sym read) range)

pub starts_end : (os : List Opened) (cpus : List Binding) (i : ℕ) → length cpus ≤ i → StartInside os cpus i → StartInside os cpus (length cpus)
starts_end os cpus i le h j b lt at = h j b (omega (arith, le, lt)) at

-- ---- lists of what each subspace gets

filter_more : {X : Type 0} (test : X → Bool) (xs : List X) (i : ℕ) (x : X) → i < length xs → x ≡ get_or xs i x
    → filter test (take (i + 1) xs) ≡ filter test (take i xs) ++ cond (test x) (x ∷ []) []
filter_more {X = X} test xs i x lt is =
    ap (filter test) (take_more xs i x lt ∙ ap (λ (y : X). take i xs ++ y ∷ []) (sym is)) ∙ filter-append test (take i xs) (x ∷ [])

kept_more : {X : Type 0} (test : X → Bool) (xs own next : List X) (i : ℕ) (x : X) → i < length xs → x ≡ get_or xs i x → test x ≡ true → own ≡ filter test (take i xs)
    → next ≡ own ++ x ∷ [] → next ≡ filter test (take (i + 1) xs)
kept_more {X = X} test xs own next i x lt is passes before pushed =
    pushed ∙ ap (λ (v : List X). v ++ x ∷ []) before ∙ ap (λ (b : Bool). filter test (take i xs) ++ cond b (x ∷ []) []) (sym passes) ∙ sym (filter_more test xs i x lt is)

left_more : {X : Type 0} (test : X → Bool) (xs own : List X) (i : ℕ) (x : X) → i < length xs → x ≡ get_or xs i x → test x ≡ false → own ≡ filter test (take i xs)
    → own ≡ filter test (take (i + 1) xs)
left_more {X = X} test xs own i x lt is fails before =
    before ∙ sym (append-nil (filter test (take i xs))) ∙ ap (λ (b : Bool). filter test (take i xs) ++ cond b (x ∷ []) []) (sym fails) ∙ sym (filter_more test xs i x lt is)

pub own_cpu : (id : ℕ) (cpus own next : List Binding) (i : ℕ) (b : Binding) → i < length cpus → b ≡ get_or cpus i b → b.subspace ≡ id → own ≡ cpus_on id (take i cpus)
    → next ≡ own ++ b ∷ [] → next ≡ cpus_on id (take (i + 1) cpus)
own_cpu id cpus own next i b lt is named before pushed = kept_more (λ x. x.subspace == id) cpus own next i b lt is (eq-eqb b.subspace id named) before pushed

pub other_cpu : (id : ℕ) (cpus own : List Binding) (i : ℕ) (b : Binding) → i < length cpus → b ≡ get_or cpus i b → b.subspace ≢ id → own ≡ cpus_on id (take i cpus)
    → own ≡ cpus_on id (take (i + 1) cpus)
other_cpu id cpus own i b lt is other before = left_more (λ x. x.subspace == id) cpus own i b lt is (ne_eqb b.subspace id other) before

pub cpus_all : (id : ℕ) (cpus own : List Binding) (i : ℕ) → length cpus ≤ i → own ≡ cpus_on id (take i cpus) → own ≡ cpus_on id cpus
cpus_all id cpus own i le h = h ∙ ap (cpus_on id) (take_all i cpus le)

pub own_cap : (id : ℕ) (caps : List CapLine) (own next : List Cap) (i : ℕ) (c : CapLine) → i < length caps → c ≡ get_or caps i c → c.id ≡ id → own ≡ caps_on id (take i caps)
    → next ≡ own ++ cap_of c ∷ [] → next ≡ caps_on id (take (i + 1) caps)
own_cap id caps own next i c lt is named before pushed =
    let test : CapLine → Bool = λ x. x.id == id in
    pushed ∙ ap (λ (v : List Cap). v ++ cap_of c ∷ []) before ∙ sym (map-append cap_of (filter test (take i caps)) (c ∷ []))
    ∙ ap (map cap_of) (kept_more test caps (filter test (take i caps)) (filter test (take i caps) ++ c ∷ []) i c lt is (eq-eqb c.id id named) refl refl)

pub other_cap : (id : ℕ) (caps : List CapLine) (own : List Cap) (i : ℕ) (c : CapLine) → i < length caps → c ≡ get_or caps i c → c.id ≢ id → own ≡ caps_on id (take i caps)
    → own ≡ caps_on id (take (i + 1) caps)
other_cap id caps own i c lt is other before =
    let test : CapLine → Bool = λ x. x.id == id in
    before ∙ ap (map cap_of) (left_more test caps (filter test (take i caps)) i c lt is (ne_eqb c.id id other) refl)

pub caps_all : (id : ℕ) (caps : List CapLine) (own : List Cap) (i : ℕ) → length caps ≤ i → own ≡ caps_on id (take i caps) → own ≡ caps_on id caps
caps_all id caps own i le h = h ∙ ap (caps_on id) (take_all i caps le)

-- each of the first elements was changed
pub changed_more : {X : Type 0} (f : X → X) (xs now : List X) (i : ℕ) (x new : X) → i < length xs → now ≡ map f (take i xs) ++ drop i xs → x ≡ get_or now i x → new ≡ f x
    → set now i new ≡ map f (take (i + 1) xs) ++ drop (i + 1) xs
changed_more {X = X} f xs now i x new lt e is changed =
    let front : List X = map f (take i xs) in
    let back : List X = drop (i + 1) xs in
    let here : drop i xs ≡ get_or xs i x ∷ back = drop_more xs i x lt in
    let taken : length (take i xs) ≡ i = omega (arith, length-take i xs) in
    let count : length front ≡ i = length-map (take i xs) f ∙ taken in
    let whole : now ≡ front ++ get_or xs i x ∷ back = e ∙ ap (λ (v : List X). front ++ v) here in
    let same : x ≡ get_or xs i x =
    is ∙ ap (λ (v : List X). get_or v i x) whole ∙ ap (λ (k : ℕ). get_or (front ++ get_or xs i x ∷ back) k x) (sym count) ∙ get_or-append_seam front (get_or xs i x) back x in
    ap (λ (v : List X). set v i new) whole ∙ ap (λ (k : ℕ). set (front ++ get_or xs i x ∷ back) k new) (sym count) ∙ set-append_seam front (get_or xs i x) back new
    ∙ ap (λ (y : X). front ++ y ∷ back) (changed ∙ ap f same)
    ∙ sym (append_assoc front (f (get_or xs i x) ∷ []) back)
    ∙ ap (λ (v : List X). v ++ back) (sym (map-append f (take i xs) (get_or xs i x ∷ [])) ∙ ap (map f) (sym (take_more xs i x lt)))

pub changed_end : {X : Type 0} (f : X → X) (xs now : List X) (i : ℕ) → length xs ≤ i → now ≡ map f (take i xs) ++ drop i xs → now ≡ map f xs
changed_end {X = X} f xs now i le e =
    e ∙ ap (λ (v : List X). map f v ++ drop i xs) (take_all i xs le) ∙ ap (λ (v : List X). map f xs ++ v) (drop_all i xs le) ∙ append-nil (map f xs)
