-- Why bytes are not those of a package and nothing else.
use Rattle.std.specs.Prelude.{◌<◌, ℕ, List, length, take}
use Rattle.aml_pkg.specs.declared.item.Item.{Item}
use Rattle.cpc_package.specs.Packages.{CpcBytes, CpcWrong}
use Rattle.pcc_setup.specs.declared.package.PackageError.{PackageError}
use Rattle.pcc_setup.specs.declared.package.PackageError.TheVariants as error

-- they begin with no package, and this is wrong first; or those before this place are a package, and more follow
abbrev pub IsNoPackage : List ℕ → PackageError → Type 0
IsNoPackage bytes (error.Wrong fault) = CpcWrong bytes fault
IsNoPackage bytes (error.Trailing at) = (cpc : Item) × CpcBytes (take at bytes) cpc × (at < length bytes)
IsNoPackage bytes error.NoMemory = Unit {0}
