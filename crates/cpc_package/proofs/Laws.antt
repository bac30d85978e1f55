-- What is read is spelled so, what is spelled so is read, and each fault is of the wrong that it tells.
use Rattle.std.proofs.Common.{◌≡◌, ◌⊎◌, inl, inr, ℕ, List, ◌++◌, length, take, drop, Option, Some, None, sym, ap, ◌∙◌, subst}
use Rattle.std.proofs.lemmas.List.{take-append-drop}
use Rattle.aml_pkg.specs.declared.item.Item.{Item}
use Rattle.aml_pkg.specs.declared.fault.AmlFault.{AmlFault}
use Rattle.aml_pkg.specs.declared.fault.ReadError.{ReadError}
use Rattle.aml_pkg.specs.declared.fault.ReadError.TheVariants as read
use Rattle.aml_pkg.specs.Spelling.{AmlBytes}
use Rattle.aml_pkg.specs.Faults as aml
use Rattle.aml_pkg.specs.Answers.{OnFault}
use Rattle.pcc_bytes.specs.Bytes.{IsBytes}
use Rattle.cpc_package.specs.declared.fault.CpcFault.{CpcFault}
use Rattle.cpc_package.specs.declared.fault.CpcError.TheVariants as errors
use Rattle.cpc_package.specs.Packages.{CpcBytes, CpcWrong, InAml, InItem, HasFault, HasPackage, IsCpc, IsTold, PackageWrong, Tells, error_of_fault, error_of_read, fault_of_aml}
use Rattle.cpc_package.specs.Testing.{item_fault}
use Rattle.cpc_package.proofs.Tested.{item_right, item_wrong, ItemOutcome, IsRight, IsWrong, item_outcome}

no_fault : {P : Type 0} (f : CpcFault) → None ≡ Some f → P
no_fault f e = absurd cc

same_fault : (f g : CpcFault) → Some f ≡ Some g → f ≡ g
same_fault f g e = cc

right_by : (c : Item) (o : Option CpcFault) → ItemOutcome c o → o ≡ None → IsCpc c
right_by c _ (IsRight h) e = h
right_by c _ (IsWrong f h) e = no_fault f (sym e)

-- an item with no fault is a package, and one with a fault is wrong
pub is_right : (c : Item) → item_fault c ≡ None → IsCpc c
is_right c e = right_by c _ (item_outcome c) e

wrong_by : (c : Item) (f : CpcFault) (o : Option CpcFault) → ItemOutcome c o → o ≡ Some f → PackageWrong c f
wrong_by c f _ (IsRight h) e = no_fault f e
wrong_by c f _ (IsWrong g h) e = subst (PackageWrong c) (same_fault g f e) h

pub is_wrong : (c : Item) (f : CpcFault) → item_fault c ≡ Some f → PackageWrong c f
is_wrong c f e = wrong_by c f _ (item_outcome c) e

-- ---- an item was read that is a package

-- what reading an item says of one that was read
abbrev pub OnlyItem : List ℕ → Item → ℕ → Type 0
OnlyItem bytes i used = (j : Item) (front rest : List ℕ) → AmlBytes front j → bytes ≡ front ++ rest → (i ≡ j) × (used ≡ length front)

abbrev pub NoFault : List ℕ → Type 0
NoFault bytes = (fault : AmlFault) → aml.ItemWrong bytes fault → ⊥

pub package_only : (bytes front rest : List ℕ) (i c : Item) (used : ℕ) → OnlyItem bytes i used → CpcBytes front c → bytes ≡ front ++ rest
    → (i ≡ c) × (used ≡ length front)
package_only bytes front rest i c used only h e = only c front rest h.item e

pub package_exact : (bytes : List ℕ) (i : Item) (used : ℕ) (f : CpcFault) → OnlyItem bytes i used → NoFault bytes → item_fault i ≡ None → CpcWrong bytes f → ⊥
package_exact bytes i used f only none right (InAml fault h) = none fault h
package_exact bytes i used f only none right (InItem front rest j g h e wrong) =
    let same : i ≡ j = (only j front rest h e).0 in
    no_fault g (sym right ∙ ap item_fault same ∙ item_wrong j g wrong)

-- ---- an item was read that is none

pub faulty_only : {P : Type 0} (bytes front rest : List ℕ) (i c : Item) (used : ℕ) (f : CpcFault) → OnlyItem bytes i used → item_fault i ≡ Some f
    → CpcBytes front c → bytes ≡ front ++ rest → P
faulty_only bytes front rest i c used f only wrong h e =
    let same : i ≡ c = (only c front rest h.item e).0 in
    no_fault f (sym (item_right c h.right) ∙ ap item_fault (sym same) ∙ wrong)

pub faulty_told : (bytes : List ℕ) (i : Item) (used : ℕ) (f : CpcFault) → AmlBytes (take used bytes) i → item_fault i ≡ Some f → CpcWrong bytes f
faulty_told bytes i used f h e = InItem (take used bytes) (drop used bytes) i f h (sym (take-append-drop used bytes)) (is_wrong i f e)

pub faulty_exact : (bytes : List ℕ) (i : Item) (used : ℕ) (f g : CpcFault) → OnlyItem bytes i used → NoFault bytes → item_fault i ≡ Some f
    → CpcWrong bytes g → Tells (error_of_fault f) g
faulty_exact bytes i used f g only none wrong (InAml fault h) = absurd (none fault h)
faulty_exact bytes i used f g only none wrong (InItem front rest j x h e other) =
    let same : i ≡ j = (only j front rest h e).0 in
    same_fault f g (sym wrong ∙ ap item_fault same ∙ item_wrong j g other)

-- ---- no item was read

pub unread_only : (bytes front rest : List ℕ) (c : Item) (e : ReadError)
    → ((j : Item) (front rest : List ℕ) → AmlBytes front j → bytes ≡ front ++ rest → e ≡ read.NoMemory) → CpcBytes front c → bytes ≡ front ++ rest → error_of_read e ≡ errors.NoMemory
unread_only bytes front rest c e only h parts = ap error_of_read (only c front rest h.item parts)

pub unread_told : (bytes : List ℕ) (e : ReadError) → OnFault e (aml.ItemWrong bytes) → IsTold bytes (error_of_read e)
unread_told bytes read.NoMemory h = tt
unread_told bytes (read.Fault fault) h = InAml fault h

unread_aml : (fault : AmlFault) (e : ReadError) → OnFault e (λ f. f ≡ fault) → Tells (error_of_read e) (fault_of_aml fault)
unread_aml fault read.NoMemory h = tt
unread_aml fault (read.Fault f) h = ap fault_of_aml h

pub unread_exact : (bytes : List ℕ) (e : ReadError) (f : CpcFault)
    → ((j : Item) (front rest : List ℕ) → AmlBytes front j → bytes ≡ front ++ rest → e ≡ read.NoMemory)
    → ((fault : AmlFault) → aml.ItemWrong bytes fault → OnFault e (λ g. g ≡ fault)) → CpcWrong bytes f → Tells (error_of_read e) f
unread_exact bytes e f only exact (InAml fault h) = unread_aml fault e (exact fault h)
unread_exact bytes e f only exact (InItem front rest j x h parts other) =
    subst (λ (x : ReadError). Tells (error_of_read x) f) (sym (only j front rest h parts)) tt

-- ---- a package or a fault, and one of each

some_by : (bytes front rest : List ℕ) (i : Item) (o : Option CpcFault) → ItemOutcome i o → AmlBytes front i → bytes ≡ front ++ rest
    → HasPackage bytes ⊎ HasFault bytes
some_by bytes front rest i _ (IsRight right) h e = inl (i, front, rest, record { item = h; right = right }, e)
some_by bytes front rest i _ (IsWrong f wrong) h e = inr (f, InItem front rest i f h e wrong)

pub package_or_fault : ((bytes : List ℕ) → IsBytes bytes → aml.HasItem bytes ⊎ aml.HasFault bytes) → (bytes : List ℕ) → IsBytes bytes
    → HasPackage bytes ⊎ HasFault bytes
package_or_fault some bytes fits = elim (some bytes fits) [
  | inl h ↦ some_by bytes h.1 h.2 h.0 _ (item_outcome h.0) h.3 h.4
  | inr h ↦ inr (fault_of_aml h.0, InAml h.0 h.1)
]

abbrev pub AmlApart : Type 0
AmlApart = (bytes : List ℕ) → aml.HasItem bytes → aml.HasFault bytes → ⊥

abbrev pub OneAmlItem : Type 0
OneAmlItem = (front rest other left : List ℕ) (i j : Item) → AmlBytes front i → AmlBytes other j → front ++ rest ≡ other ++ left → i ≡ j

pub package_and_fault : AmlApart → OneAmlItem → (bytes : List ℕ) → HasPackage bytes → HasFault bytes → ⊥
package_and_fault apart one bytes h (f, InAml fault w) = apart bytes (h.0, h.1, h.2, h.3.item, h.4) (fault, w)
package_and_fault apart one bytes h (f, InItem front rest i x item e wrong) =
    let same : h.0 ≡ i = one h.1 h.2 front rest h.0 i h.3.item item (sym h.4 ∙ e) in
    no_fault f (sym (item_right h.0 h.3.right) ∙ ap item_fault same ∙ item_wrong i f wrong)

pub one_fault : AmlApart → OneAmlItem → ((bytes : List ℕ) (fault other : AmlFault) → aml.ItemWrong bytes fault → aml.ItemWrong bytes other → fault ≡ other)
    → (bytes : List ℕ) (f g : CpcFault) → CpcWrong bytes f → CpcWrong bytes g → f ≡ g
one_fault apart one same bytes f g (InAml fault h) (InAml other k) = ap fault_of_aml (same bytes fault other h k)
one_fault apart one same bytes f g (InAml fault h) (InItem front rest i x item e wrong) = absurd (apart bytes (i, front, rest, item, e) (fault, h))
one_fault apart one same bytes f g (InItem front rest i x item e wrong) (InAml fault h) = absurd (apart bytes (i, front, rest, item, e) (fault, h))
one_fault apart one same bytes f g (InItem front rest i x item e wrong) (InItem front2 rest2 j y item2 e2 wrong2) =
    let equal : i ≡ j = one front rest front2 rest2 i j item item2 (sym e ∙ e2) in
    same_fault f g (sym (item_wrong i f wrong) ∙ ap item_fault equal ∙ item_wrong j g wrong2)
