-- The laws of packages: bytes begin with one package, or one thing is wrong with them.
use Rattle.std.proofs.Common.{◌≡◌, ◌⊎◌, ℕ, ◌+◌, ◌≤◌, List, [], ◌++◌, length, refl, sym, ap, ◌∙◌, subst, arith}
use Rattle.std.proofs.lemmas.List.{append-nil, length-append}
use Rattle.pcc_bytes.specs.Bytes.{IsBytes}
use Rattle.aml_pkg.specs.declared.item.Item.{Item}
use Rattle.aml_pkg.proofs.Laws as aml
use Rattle.cpc_package.specs.declared.fault.CpcFault.{CpcFault}
use Rattle.cpc_package.specs.Packages.{CpcBytes, CpcWrong, HasFault, HasPackage}
use Rattle.cpc_package.proofs.Laws as packages

pub some_package : (bytes : List ℕ) → IsBytes bytes → HasPackage bytes ⊎ HasFault bytes
some_package = packages.package_or_fault aml.item_or_fault

pub not_both : (bytes : List ℕ) → HasPackage bytes → HasFault bytes → ⊥
not_both = packages.package_and_fault aml.not_both aml.one_item

pub one_package : (front rest other left : List ℕ) (p q : Item) → CpcBytes front p → CpcBytes other q → front ++ rest ≡ other ++ left → p ≡ q
one_package front rest other left p q h k e = aml.one_item front rest other left p q h.item k.item e

pub one_fault : (bytes : List ℕ) (f g : CpcFault) → CpcWrong bytes f → CpcWrong bytes g → f ≡ g
one_fault = packages.one_fault aml.not_both aml.one_item aml.one_fault

one_spelling : (bytes other : List ℕ) (p : Item) → CpcBytes bytes p → CpcBytes other p → bytes ≡ other
one_spelling bytes other p h k = h.item.spelled ∙ sym k.item.spelled

-- whole bytes spell one package
pub one_whole : (bytes : List ℕ) (p q : Item) → CpcBytes bytes p → CpcBytes bytes q → p ≡ q
one_whole bytes p q h k = one_package bytes [] bytes [] p q h k refl

-- bytes begin with one package
pub one_front : (bytes front rest other more : List ℕ) (p q : Item) → CpcBytes front p → CpcBytes other q → bytes ≡ front ++ rest → bytes ≡ other ++ more
    → front ≡ other
one_front bytes front rest other more p q h k e f =
    let same : p ≡ q = one_package front rest other more p q h k (sym e ∙ f) in
    one_spelling front other p h (subst (CpcBytes other) (sym same) k)

-- bytes of which a package is a proper front are no package
pub not_whole : (bytes front rest : List ℕ) (p q : Item) → CpcBytes front p → bytes ≡ front ++ rest → 1 ≤ length rest → CpcBytes bytes q → ⊥
not_whole bytes front rest p q h e some k =
    let same : front ≡ bytes = one_front bytes front rest bytes [] p q h k e (sym (append-nil bytes)) in
    let n : length front ≡ length bytes = ap length same in
    let m : length bytes ≡ length front + length rest = ap length e ∙ length-append front rest in
    absurd (omega (arith, n, m, some))
