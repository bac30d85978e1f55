-- Why bytes are refused as a package.
use Rattle.std.specs.Prelude.{◌≡◌, ◌≤◌, ℕ, List, ◌++◌, length}
use Rattle.aml_pkg.specs.declared.item.Item.{Item}
use Rattle.cpc_package.specs.declared.fault.CpcFault.{CpcFault}
use Rattle.cpc_package.specs.Packages.{CpcBytes, CpcWrong, HasPackage}
use Rattle.pcc_setup.specs.declared.refusal.Refusal.{Refusal}
use Rattle.pcc_setup.specs.declared.refusal.Refusal.TheVariants as refusal

-- Bytes are not those of a package and nothing else: they begin with none, and this is wrong first; or they begin with one, and this is the
-- place behind it.
pub data PackageRefused (bytes : List ℕ) : Refusal → Type 0 where
  WrongPackage : (HasPackage bytes → ⊥) → (fault : CpcFault) → CpcWrong bytes fault → PackageRefused bytes (refusal.Package fault)
  PackageFollowed : ((c : Item) → CpcBytes bytes c → ⊥) → (front rest : List ℕ) → (c : Item) → CpcBytes front c → bytes ≡ front ++ rest → 1 ≤ length rest
      → PackageRefused bytes (refusal.PackageTrailing (length front))
