-- Why bytes are no package, and that a package is not refused.
use Rattle.std.proofs.Common.{◌≡◌, ◌⊎◌, inl, inr, ℕ, ◌+◌, ◌<◌, ◌≤◌, List, [], ◌∷◌, ◌++◌, length, take, drop, sym, ap, ◌∙◌, subst, arith}
use Rattle.std.proofs.lemmas.List.{append-nil, length-append, length-drop, length-take, take-append-drop}
use Rattle.pcc_bytes.specs.Bytes.{IsBytes}
use Rattle.aml_pkg.specs.declared.item.Item.{Item}
use Rattle.cpc_package.specs.declared.fault.CpcFault.{CpcFault}
use Rattle.cpc_package.specs.Packages.{CpcBytes, CpcWrong, HasFault, HasPackage}
use Rattle.pcc_setup.specs.declared.refusal.Refusal.{Refusal}
use Rattle.pcc_setup.specs.declared.refusal.Refusal.TheVariants as refusal
use Rattle.pccrun_core.specs.Packages.{PackageFollowed, PackageRefused, WrongPackage}

-- the laws of packages that are used
abbrev pub NotBoth : Type 0
NotBoth = (bytes : List ℕ) → HasPackage bytes → HasFault bytes → ⊥

abbrev pub OnePackage : Type 0
OnePackage = (front rest other left : List ℕ) (cpc c : Item) → CpcBytes front cpc → CpcBytes other c → front ++ rest ≡ other ++ left → cpc ≡ c

abbrev pub SomePackage : Type 0
SomePackage = (bytes : List ℕ) → IsBytes bytes → HasPackage bytes ⊎ HasFault bytes

abbrev pub OneFault : Type 0
OneFault = (bytes : List ℕ) (fault other : CpcFault) → CpcWrong bytes fault → CpcWrong bytes other → fault ≡ other

abbrev pub OneSpelling : Type 0
OneSpelling = (bytes other : List ℕ) (cpc : Item) → CpcBytes bytes cpc → CpcBytes other cpc → bytes ≡ other

-- a fault at the beginning
pub wrong_package : NotBoth → (bytes : List ℕ) (fault : CpcFault) → CpcWrong bytes fault → PackageRefused bytes (refusal.Package fault)
wrong_package apart bytes fault h = WrongPackage (λ p. apart bytes p (fault, h)) fault h

-- bytes behind a package
pub package_followed : OnePackage → OneSpelling → (bytes : List ℕ) (len : ℕ) (c : Item) → CpcBytes (take len bytes) c → len < length bytes → PackageRefused bytes (refusal.PackageTrailing len)
package_followed one spelling bytes len c h lt =
    let n : length (take len bytes) ≡ len = omega (arith, length-take len bytes) in
    let some : 1 ≤ length (drop len bytes) = omega (arith, length-drop len bytes) in
    let P : ℕ → Type 0 = λ k. PackageRefused bytes (refusal.PackageTrailing k) in
    subst P n (PackageFollowed (λ d k. none d k n) (take len bytes) (drop len bytes) c h (sym (take-append-drop len bytes)) some)
  where
    none : (d : Item) → CpcBytes bytes d → length (take len bytes) ≡ len → ⊥
    none d k n =
        let same : c ≡ d = one (take len bytes) (drop len bytes) bytes [] c d h k (take-append-drop len bytes ∙ sym (append-nil bytes)) in
        let all : take len bytes ≡ bytes = spelling (take len bytes) bytes c h (subst (CpcBytes bytes) (sym same) k) in
        let m : length (take len bytes) ≡ length bytes = ap length all in
        absurd (omega arith)

-- a package is not refused
pub package_kept : (bytes : List ℕ) (c : Item) (r : Refusal) → CpcBytes bytes c → PackageRefused bytes r → ⊥
package_kept bytes c r h (WrongPackage none fault wrong) = none (c, bytes, [], h, sym (append-nil bytes))
package_kept bytes c r h (PackageFollowed none front rest d k e some) = none c h

-- ---- a package or one refusal

-- bytes begin with one package
one_front : OnePackage → OneSpelling → (bytes front rest other more : List ℕ) (c d : Item) → CpcBytes front c → CpcBytes other d → bytes ≡ front ++ rest → bytes ≡ other ++ more
    → front ≡ other
one_front one spelling bytes front rest other more c d h k e f =
    let same : c ≡ d = one front rest other more c d h k (sym e ∙ f) in
    spelling front other c h (subst (CpcBytes other) (sym same) k)

-- bytes that a package is a proper front of are no package
not_whole : OnePackage → OneSpelling → (bytes front rest : List ℕ) (c d : Item) → CpcBytes front c → bytes ≡ front ++ rest → 1 ≤ length rest → CpcBytes bytes d → ⊥
not_whole one spelling bytes front rest c d h e some k =
    let same : front ≡ bytes = one_front one spelling bytes front rest bytes [] c d h k e (sym (append-nil bytes)) in
    let n : length front ≡ length bytes = ap length same in
    let m : length bytes ≡ length front + length rest = ap length e ∙ length-append front rest in
    absurd (omega (arith, n, m, some))

-- bytes are a package, or are refused
abbrev pub PackageOr : List ℕ → Type 0
PackageOr bytes = ((c : Item) × CpcBytes bytes c) ⊎ ((r : Refusal) × PackageRefused bytes r)

begun : OnePackage → OneSpelling → (bytes front rest : List ℕ) (c : Item) → CpcBytes front c → bytes ≡ front ++ rest → PackageOr bytes
begun one spelling bytes front [] c h e = inl (c, subst (λ (v : List ℕ). CpcBytes v c) (sym (e ∙ append-nil front)) h)
begun one spelling bytes front (b ∷ rest) c h e =
    inr (refusal.PackageTrailing (length front), PackageFollowed (λ d k. not_whole one spelling bytes front (b ∷ rest) c d h e (omega arith) k) front (b ∷ rest) c h e (omega arith))

pub package_or_refused : SomePackage → NotBoth → OnePackage → OneSpelling → (bytes : List ℕ) → IsBytes bytes → PackageOr bytes
package_or_refused some apart one spelling bytes fit = elim (some bytes fit) [
  | inl p ↦ begun one spelling bytes p.1 p.2 p.0 p.3 p.4
  | inr f ↦ inr (refusal.Package f.0, WrongPackage (λ p. apart bytes p f) f.0 f.1)
]

pub one_package_refusal : OnePackage → OneSpelling → OneFault → (bytes : List ℕ) (r q : Refusal) → PackageRefused bytes r → PackageRefused bytes q → r ≡ q
one_package_refusal one spelling single bytes r q (WrongPackage none f a) (WrongPackage no_one g b) = ap refusal.Package (single bytes f g a b)
one_package_refusal one spelling single bytes r q (WrongPackage none f a) (PackageFollowed whole front rest c h e some) = absurd (none (c, front, rest, h, e))
one_package_refusal one spelling single bytes r q (PackageFollowed whole front rest c h e some) (WrongPackage none f a) = absurd (none (c, front, rest, h, e))
one_package_refusal one spelling single bytes r q (PackageFollowed whole front rest c h e some) (PackageFollowed all other more d k f any) =
    ap (λ (v : List ℕ). refusal.PackageTrailing (length v)) (one_front one spelling bytes front rest other more c d h k e f)
