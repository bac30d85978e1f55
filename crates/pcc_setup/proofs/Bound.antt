-- `cpu` lines and their bindings: there is one list of these, or one line is the first that isn't bound.
use Rattle.std.proofs.Common.{◌≡◌, ◌⊎◌, inl, inr, ℕ, zero, suc, ◌+◌, ◌<◌, ◌≤◌, List, [], ◌∷◌, ◌++◌, length, get_or, take, refl, sym, ap, ◌∙◌, subst, arith}
use Rattle.std.specs.Prelude.{AllPairs, Option, Some, None, slice_get}
use Rattle.std.specs.List.{AllByRecursion, AllZip}
use Rattle.std.proofs.lemmas.Bool.{cases_lt}
use Rattle.std.proofs.lemmas.List.{append-nil, get_or-take, length-take, take_all, take_more, take-take}
use Rattle.std.proofs.lemmas.List.Quantifiers.{all_pairs_push}
use Rattle.std.proofs.lemmas.Option.{get_or_from_slice_get, slice_get-get_or, slice_get_within}
use Rattle.pcc_bytes.specs.Bytes.{IsBytes}
use Rattle.aml_pkg.specs.declared.item.Item.{Item}
use Rattle.cpc_package.specs.Bindings.{ShareBit, binding_of}
use Rattle.cpc_package.specs.Entries.{entries_of}
use Rattle.cpc_package.specs.Packages.{CpcBytes}
use Rattle.cpc_package.specs.declared.binding.Binding.{Binding}
use Rattle.pcc_setup.specs.declared.opening.Opened.{Opened}
use Rattle.pcc_setup.specs.declared.refusal.CpuFault.{CpuFault}
use Rattle.pcc_setup.specs.declared.refusal.CpuFault.TheVariants as fault
use Rattle.pcc_setup.specs.declared.refusal.Refusal.{Refusal}
use Rattle.pcc_setup.specs.declared.refusal.Refusal.TheVariants as refusal
use Rattle.pcc_setup.specs.Processors.{Alone, AreBound, Binds, CpuRefused, CpuWrong, FirstUnbound, FollowedBy, IsFirstSharing, Misfit, NoPackage, Sharing, Unbound, entries_fault}
use Rattle.pcc_setup.proofs.FirstFaults.{some_none, some_same}
use Rattle.pcc_setup.proofs.PackageLaws.{not_both, not_whole, one_fault, one_front, one_whole, some_package}
use Rattle.pcc_setup.proofs.Sharing.{one_sharing, sharing_or_none}

-- ---- one package

whole : (bytes : List ℕ) → bytes ≡ bytes ++ []
whole bytes = sym (append-nil bytes)

-- a binding's package has no fault
binds_kept : (os : List Opened) (bytes : List ℕ) (b : Binding) (f : CpuFault) → Binds os bytes b → Unbound os bytes f → ⊥
binds_kept os bytes b f h (NoPackage wrong w) = not_both bytes (h.cpc, bytes, [], h.spelled, whole bytes) (wrong, w)
binds_kept os bytes b f h (FollowedBy front rest p k e some) = not_whole bytes front rest p h.cpc k e some h.spelled
binds_kept os bytes b f h (Misfit p k wrong e) =
    let same : h.cpc ≡ p = one_whole bytes h.cpc p h.spelled k in
    some_none (entries_fault os (entries_of p)) wrong (subst (λ (q : Item). entries_fault os (entries_of q) ≡ None) same h.fits) e

one_binding : (os : List Opened) (bytes : List ℕ) (b c : Binding) → Binds os bytes b → Binds os bytes c → b ≡ c
one_binding os bytes b c h k =
    h.binding_is ∙ ap (λ (p : Item). binding_of (entries_of p)) (one_whole bytes h.cpc k.cpc h.spelled k.spelled) ∙ sym k.binding_is

-- a package with a fault has one
unfit_same : (os : List Opened) (bytes : List ℕ) (p q : Item) (f g : CpuFault) → CpcBytes bytes p → CpcBytes bytes q → entries_fault os (entries_of p) ≡ Some f
    → entries_fault os (entries_of q) ≡ Some g → f ≡ g
unfit_same os bytes p q f g h k e d =
    let same : p ≡ q = one_whole bytes p q h k in
    some_same f g (sym e ∙ ap (λ (x : Item). entries_fault os (entries_of x)) same ∙ d)

one_unbound : (os : List Opened) (bytes : List ℕ) (f g : CpuFault) → Unbound os bytes f → Unbound os bytes g → f ≡ g
one_unbound os bytes f g (NoPackage w h) (NoPackage v k) = ap fault.Package (one_fault bytes w v h k)
one_unbound os bytes f g (NoPackage w h) (FollowedBy front rest p k e some) = absurd (not_both bytes (p, front, rest, k, e) (w, h))
one_unbound os bytes f g (NoPackage w h) (Misfit p k wrong e) = absurd (not_both bytes (p, bytes, [], k, whole bytes) (w, h))
one_unbound os bytes f g (FollowedBy front rest p k e some) (NoPackage w h) = absurd (not_both bytes (p, front, rest, k, e) (w, h))
one_unbound os bytes f g (FollowedBy front rest p h e some) (FollowedBy other more q k d any) =
    ap (λ (v : List ℕ). fault.Trailing (length v)) (one_front bytes front rest other more p q h k e d)
one_unbound os bytes f g (FollowedBy front rest p h e some) (Misfit q k wrong d) = absurd (not_whole bytes front rest p q h e some k)
one_unbound os bytes f g (Misfit p k wrong e) (NoPackage w h) = absurd (not_both bytes (p, bytes, [], k, whole bytes) (w, h))
one_unbound os bytes f g (Misfit q k wrong d) (FollowedBy front rest p h e some) = absurd (not_whole bytes front rest p q h e some k)
one_unbound os bytes f g (Misfit p h wrong e) (Misfit q k bad d) = unfit_same os bytes p q f g h k e d

-- bytes are bound or not
abbrev BindsOr : List Opened → List ℕ → Type 0
BindsOr os bytes = ((b : Binding) × Binds os bytes b) ⊎ ((f : CpuFault) × Unbound os bytes f)

fits_or : (os : List Opened) (bytes : List ℕ) (p : Item) → CpcBytes bytes p → (o : Option CpuFault) → entries_fault os (entries_of p) ≡ o → BindsOr os bytes
fits_or os bytes p h None e = inl (binding_of (entries_of p), record { cpc = p; spelled = h; fits = e; binding_is = refl })
fits_or os bytes p h (Some f) e = inr (f, Misfit p h f e)

begun : (os : List Opened) (bytes front rest : List ℕ) (p : Item) → CpcBytes front p → bytes ≡ front ++ rest → BindsOr os bytes
begun os bytes front [] p h e = fits_or os bytes p (subst (λ (v : List ℕ). CpcBytes v p) (sym (e ∙ append-nil front)) h) (entries_fault os (entries_of p)) refl
begun os bytes front (x ∷ rest) p h e = inr (fault.Trailing (length front), FollowedBy front (x ∷ rest) p h e (omega arith))

binds_or : (os : List Opened) (bytes : List ℕ) → IsBytes bytes → BindsOr os bytes
binds_or os bytes fit = elim (some_package bytes fit) [
  | inl p ↦ begun os bytes p.1 p.2 p.0 p.3 p.4
  | inr f ↦ inr (fault.Package f.0, NoPackage f.0 f.1)
]

-- ---- a line after bound ones

-- it is bound, and shares no bit with them
pub record BindsBeside (os : List Opened) (before : List Binding) (bytes : List ℕ) (b : Binding) : Type 0 where
  pub binds : Binds os bytes b
  pub apart : (k : ℕ) (d : Binding) → k < length before → ShareBit (get_or before k d) b → ⊥

beside_kept : (os : List Opened) (before : List Binding) (bytes : List ℕ) (b : Binding) (f : CpuFault) → BindsBeside os before bytes b → CpuWrong os before bytes f → ⊥
beside_kept os before bytes b f h (Alone wrong w) = binds_kept os bytes b wrong h.binds w
beside_kept os before bytes b f h (Sharing c k cpu shares) =
    let same : c ≡ b = one_binding os bytes c b k h.binds in
    h.apart cpu c shares.within (subst (λ (x : Binding). ShareBit (get_or before cpu c) x) same (shares.shares c))

one_wrong : (os : List Opened) (before : List Binding) (bytes : List ℕ) (f g : CpuFault) → CpuWrong os before bytes f → CpuWrong os before bytes g → f ≡ g
one_wrong os before bytes f g (Alone w h) (Alone v k) = one_unbound os bytes w v h k
one_wrong os before bytes f g (Alone w h) (Sharing c k cpu shares) = absurd (binds_kept os bytes c w k h)
one_wrong os before bytes f g (Sharing c k cpu shares) (Alone w h) = absurd (binds_kept os bytes c w k h)
one_wrong os before bytes f g (Sharing b h cpu shares) (Sharing c k other too) =
    let same : b ≡ c = one_binding os bytes b c h k in
    ap fault.Shares (one_sharing before c cpu other (subst (λ (x : Binding). IsFirstSharing before x cpu) same shares) too)

beside_or : (os : List Opened) (before : List Binding) (bytes : List ℕ) → IsBytes bytes
    → ((b : Binding) × BindsBeside os before bytes b) ⊎ ((f : CpuFault) × CpuWrong os before bytes f)
beside_or os before bytes fit = elim (binds_or os bytes fit) [
  | inr f ↦ inr (f.0, Alone f.0 f.1)
  | inl h ↦ elim (sharing_or_none before h.0) [
    | inl s ↦ inr (fault.Shares s.0, Sharing h.0 h.1 s.0 s.1)
    | inr none ↦ inl (h.0, record { binds = h.1; apart = none })
  ]
]

-- ---- all lines

zip_take : {A B : Type 0} (R : A → B → Type 0) (xs : List A) (ys : List B) (n : ℕ) → AllZip R xs ys → AllZip R (take n xs) (take n ys)
zip_take R xs ys zero h = tt
zip_take R [] [] (suc n) h = tt
zip_take R [] (y ∷ ys) (suc n) h = absurd h
zip_take R (x ∷ xs) [] (suc n) h = absurd h
zip_take R (x ∷ xs) (y ∷ ys) (suc n) h = (h.0, zip_take R xs ys n h.1)

pub zip_push : {A B : Type 0} (R : A → B → Type 0) (xs : List A) (ys : List B) (x : A) (y : B) → AllZip R xs ys → R x y → AllZip R (xs ++ x ∷ []) (ys ++ y ∷ [])
zip_push R [] [] x y h r = (r, tt)
zip_push R [] (b ∷ ys) x y h r = absurd h
zip_push R (a ∷ xs) [] x y h r = absurd h
zip_push R (a ∷ xs) (b ∷ ys) x y h r = (h.0, zip_push R xs ys x y h.1 r)

zip_same : {A B : Type 0} (R : A → B → Type 0) → ((x : A) (y z : B) → R x y → R x z → y ≡ z) → (xs : List A) (ys zs : List B) → AllZip R xs ys → AllZip R xs zs → ys ≡ zs
zip_same R one [] [] [] h k = refl
zip_same R one [] [] (z ∷ zs) h k = absurd k
zip_same R one [] (y ∷ ys) zs h k = absurd h
zip_same R one (x ∷ xs) [] zs h k = absurd h
zip_same R one (x ∷ xs) (y ∷ ys) [] h k = absurd k
zip_same {B = B} R one (x ∷ xs) (y ∷ ys) (z ∷ zs) h k =
    let first : y ≡ z = one x y z h.0 k.0 in
    let rest : ys ≡ zs = zip_same R one xs ys zs h.1 k.1 in
    λ i. first i ∷ rest i

zip_at : {A B : Type 0} (R : A → B → Type 0) (xs : List A) (ys : List B) (i : ℕ) (x : A) → AllZip R xs ys → slice_get xs i ≡ Some x
    → (y : B) × (slice_get ys i ≡ Some y) × R x y
zip_at R [] ys i x h at = absurd (nothing x at)
  where
    nothing : {A : Type 0} (x : A) → None ≡ Some x → ⊥
    nothing x e = absurd cc
zip_at R (a ∷ xs) [] i x h at = absurd h
zip_at R (a ∷ xs) (y ∷ ys) zero x h at = (y, refl, subst (λ z. R z y) (some_same a x at) h.0)
zip_at R (a ∷ xs) (y ∷ ys) (suc i) x h at = zip_at R xs ys i x h.1 at

pairs_take : {X : Type 0} (R : X → X → Type 0) (xs : List X) (n : ℕ) → AllPairs R xs → AllPairs R (take n xs)
pairs_take {X = X} R xs n h i j d lt within =
    let count = length-take n xs in
    let j_in : j < n = omega (arith, within, count) in
    let i_in : i < n = omega (arith, j_in, lt) in
    let a : get_or (take n xs) i d ≡ get_or xs i d = get_or-take n xs i d i_in in
    let b : get_or (take n xs) j d ≡ get_or xs j d = get_or-take n xs j d j_in in
    subst (λ (x : X). R x (get_or (take n xs) j d)) (sym a) (subst (λ (x : X). R (get_or xs i d) x) (sym b) (h i j d lt (omega (arith, within, count))))

pub none_bound : (os : List Opened) (lines : List (List ℕ)) → AreBound os (take 0 lines) []
none_bound os lines = record { each = tt; apart = λ i j d lt within. absurd (omega (arith, within)) }

bound_take : (os : List Opened) (lines : List (List ℕ)) (cpus : List Binding) (n : ℕ) → AreBound os lines cpus → AreBound os (take n lines) (take n cpus)
bound_take os lines cpus n h = record { each = zip_take (Binds os) lines cpus n h.each; apart = pairs_take (λ a b. ShareBit a b → ⊥) cpus n h.apart }

pub one_bound : (os : List Opened) (lines : List (List ℕ)) (cpus others : List Binding) → AreBound os lines cpus → AreBound os lines others → cpus ≡ others
one_bound os lines cpus others h k = zip_same (Binds os) (one_binding os) lines cpus others h.each k.each

pub bound_more : (os : List Opened) (lines : List (List ℕ)) (before : List Binding) (i : ℕ) (bytes : List ℕ) (b : Binding) → slice_get lines i ≡ Some bytes
    → AreBound os (take i lines) before → BindsBeside os before bytes b → AreBound os (take (suc i) lines) (before ++ b ∷ [])
bound_more os lines before i bytes b at h k =
    let lt : i < length lines = slice_get_within lines i bytes at in
    let here : get_or lines i bytes ≡ bytes = get_or_from_slice_get lines i bytes bytes at in
    let more : take (i + 1) lines ≡ take i lines ++ bytes ∷ [] = take_more lines i bytes lt ∙ ap (λ (x : List ℕ). take i lines ++ x ∷ []) here in
    let next : i + 1 ≡ suc i = omega arith in
    let each : AllZip (Binds os) (take i lines ++ bytes ∷ []) (before ++ b ∷ []) = zip_push (Binds os) (take i lines) before bytes b h.each k.binds in
    record {
      each = subst (λ (n : ℕ). AllZip (Binds os) (take n lines) (before ++ b ∷ [])) next (subst (λ (v : List (List ℕ)). AllZip (Binds os) v (before ++ b ∷ [])) (sym more) each);
      apart = all_pairs_push (λ a c. ShareBit a c → ⊥) before b h.apart k.apart;
    }

-- where lines are bound, none of them is wrong after those before it
sound_at : (os : List Opened) (lines : List (List ℕ)) (cpus before : List Binding) (i : ℕ) (bytes : List ℕ) (f : CpuFault) → AreBound os lines cpus
    → slice_get lines i ≡ Some bytes → AreBound os (take i lines) before → CpuWrong os before bytes f → ⊥
sound_at os lines cpus before i bytes f h at k wrong =
    let found = zip_at (Binds os) lines cpus i bytes h.each at in
    let b : Binding = found.0 in
    let there : slice_get cpus i ≡ Some b = found.1 in
    let lt : i < length cpus = slice_get_within cpus i b there in
    let same : before ≡ take i cpus = one_bound os (take i lines) before (take i cpus) k (bound_take os lines cpus i h) in
    let wrong_there : CpuWrong os (take i cpus) bytes f = subst (λ (v : List Binding). CpuWrong os v bytes f) same wrong in
    beside_kept os (take i cpus) bytes b f (record { binds = found.2; apart = apart b there lt }) wrong_there
  where
    apart : (b : Binding) → slice_get cpus i ≡ Some b → i < length cpus → (n : ℕ) (d : Binding) → n < length (take i cpus) → ShareBit (get_or (take i cpus) n d) b → ⊥
    apart b there lt n d within shares =
        let count = length-take i cpus in
        let less : n < i = omega (arith, within, count) in
        let left : get_or (take i cpus) n d ≡ get_or cpus n d = get_or-take i cpus n d less in
        let right : get_or cpus i d ≡ b = get_or_from_slice_get cpus i b d there in
        h.apart n i d less lt (subst (λ (x : Binding). ShareBit (get_or cpus n d) x) (sym right) (subst (λ (x : Binding). ShareBit x b) left shares))

pub bound_kept : (os : List Opened) (lines : List (List ℕ)) (cpus : List Binding) (r : Refusal) → AreBound os lines cpus → CpuRefused os lines r → ⊥
bound_kept os lines cpus r h (FirstUnbound i bytes before f at k wrong) = sound_at os lines cpus before i bytes f h at k wrong

-- ---- one refusal

slice_get-take : {X : Type 0} (xs : List X) (i n : ℕ) (x : X) → slice_get xs i ≡ Some x → i < n → slice_get (take n xs) i ≡ Some x
slice_get-take xs i zero x at lt = absurd (omega (arith, lt))
slice_get-take [] i (suc n) x at lt = at
slice_get-take (y ∷ xs) zero (suc n) x at lt = at
slice_get-take (y ∷ xs) (suc i) (suc n) x at lt = slice_get-take xs i n x at (omega (arith, lt))

not_earlier : (os : List Opened) (lines : List (List ℕ)) (i j : ℕ) (bytes : List ℕ) (before others : List Binding) (f : CpuFault) → slice_get lines i ≡ Some bytes
    → AreBound os (take i lines) before → CpuWrong os before bytes f → AreBound os (take j lines) others → i < j → ⊥
not_earlier os lines i j bytes before others f at h wrong k lt =
    let front : take i (take j lines) ≡ take i lines = take-take i j lines (omega (arith, lt)) in
    sound_at os (take j lines) others before i bytes f k (slice_get-take lines i j bytes at lt) (subst (λ (v : List (List ℕ)). AreBound os v before) (sym front) h) wrong

pub one_cpu_refusal : (os : List Opened) (lines : List (List ℕ)) (r q : Refusal) → CpuRefused os lines r → CpuRefused os lines q → r ≡ q
one_cpu_refusal os lines r q (FirstUnbound i bytes before f at h wrong) (FirstUnbound j others after g there k bad) = elim (cases_lt i j) [
  | inl lt ↦ absurd (not_earlier os lines i j bytes before after f at h wrong k lt)
  | inr ge ↦ elim (cases_lt j i) [
    | inl lt ↦ absurd (not_earlier os lines j i others after before g there k bad h lt)
    | inr le ↦ same (omega (arith, ge, le))
  ]
]
  where
    same : i ≡ j → refusal.Cpu i f ≡ refusal.Cpu j g
    same e =
        let bound : AreBound os (take j lines) before = subst (λ (n : ℕ). AreBound os (take n lines) before) e h in
        let cpus : before ≡ after = one_bound os (take j lines) before after bound k in
        let element : bytes ≡ others = some_same bytes others (sym at ∙ ap (slice_get lines) e ∙ there) in
        let moved : CpuWrong os after bytes f = subst (λ (v : List Binding). CpuWrong os v bytes f) cpus wrong in
        let here : CpuWrong os after others f = subst (λ (v : List ℕ). CpuWrong os after v f) element moved in
        let fault_is : f ≡ g = one_wrong os after others f g here bad in
        λ n. refusal.Cpu (e n) (fault_is n)

-- ---- all are bound, or one is refused

line_bytes : (lines : List (List ℕ)) (i : ℕ) (bytes : List ℕ) → AllByRecursion IsBytes lines → slice_get lines i ≡ Some bytes → IsBytes bytes
line_bytes [] i bytes h at = absurd (nothing bytes at)
  where
    nothing : {A : Type 0} (x : A) → None ≡ Some x → ⊥
    nothing x e = absurd cc
line_bytes (l ∷ lines) zero bytes h at = subst IsBytes (some_same l bytes at) h.0
line_bytes (l ∷ lines) (suc i) bytes h at = line_bytes lines i bytes h.1 at

bound_to : (os : List Opened) (lines : List (List ℕ)) (n : ℕ) → AllByRecursion IsBytes lines → n ≤ length lines
    → ((r : Refusal) × CpuRefused os lines r) ⊎ ((cpus : List Binding) × AreBound os (take n lines) cpus)
bound_to os lines zero fit le = inr ([], none_bound os lines)
bound_to os lines (suc n) fit le = elim (bound_to os lines n fit (omega (arith, le))) [
  | inl found ↦ inl found
  | inr h ↦
      let at : slice_get lines n ≡ Some (get_or lines n []) = slice_get-get_or lines n [] (omega (arith, le)) in
      elim (beside_or os h.0 (get_or lines n []) (line_bytes lines n (get_or lines n []) fit at)) [
        | inl b ↦ inr (h.0 ++ b.0 ∷ [], bound_more os lines h.0 n (get_or lines n []) b.0 at h.1 b.1)
        | inr f ↦ inl (refusal.Cpu n f.0, FirstUnbound n (get_or lines n []) h.0 f.0 at h.1 f.1)
      ]
]

pub bound_or_refused : (os : List Opened) (lines : List (List ℕ)) → AllByRecursion IsBytes lines
    → ((r : Refusal) × CpuRefused os lines r) ⊎ ((cpus : List Binding) × AreBound os lines cpus)
bound_or_refused os lines fit = elim (bound_to os lines (length lines) fit (omega arith)) [
  | inl found ↦ inl found
  | inr h ↦ inr (h.0, subst (λ (v : List (List ℕ)). AreBound os v h.0) (take_all (length lines) lines (omega arith)) h.1)
]
