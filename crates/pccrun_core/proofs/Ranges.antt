-- The journals of the controllers that a served script opens keep the ranges of their processors.
use Rattle.std.proofs.Common.{ℕ, List, [], ◌∷◌, ◌++◌, map, sym, subst, arith}
use Rattle.std.specs.Prelude.{Option, Some, None, slice_get}
use Rattle.std.specs.List.{AllByRecursion}
use Rattle.pcc_bytes.specs.Bytes.{IsBytes}
use Rattle.cpc_package.specs.declared.binding.Binding.{Binding}
use Rattle.pcct_table.specs.declared.subspace.Subspace.{Subspace}
use Rattle.pcct_table.specs.declared.table.Table.{Table}
use Rattle.pcc_script.specs.Limits.{IsDevice, IsOpen}
use Rattle.pcc_script.specs.declared.scenario.CapLine.{CapLine}
use Rattle.pcc_script.specs.declared.scenario.Device.{Device}
use Rattle.pcc_script.specs.declared.scenario.Device.TheVariants.{Bank, Cppc}
use Rattle.pcc_script.specs.declared.scenario.OpenLine.{OpenLine}
use Rattle.pcc_script.specs.declared.scenario.Scenario.{Scenario}
use Rattle.pcc_script.proofs.Within.{is_within}
use Rattle.pcc_setup.specs.Equipment.{CanBegin, equipped}
use Rattle.pcc_setup.specs.Openings.{image_of, opened_by, opened_with}
use Rattle.pcc_setup.specs.SetUps.{Opens}
use Rattle.pcc_setup.specs.declared.opening.Opened.{Opened}
use Rattle.script_run.specs.Requests.{AreRanged}
use Rattle.script_run.specs.ScriptRuns.{run_of}
use Rattle.script_run.proofs.Ranged.{opened_ranges}
use Rattle.script_run.proofs.Several.{opens_apart}
use Rattle.script_run.proofs.Starting.{set_up_apart}
use Rattle.pccrun_core.specs.Serving.{Serves}
use Rattle.pccrun_core.specs.declared.command.Command.{Command}

-- a law of set-ups that is used
abbrev pub CanBeginAll : Type 0
CanBeginAll = (s : Scenario) (opened : List Opened) → Opens s opened → AllByRecursion CanBegin opened

abbrev HaveBytes : List Opened → Type 0
HaveBytes os = AllByRecursion (λ o. IsBytes o.image) os

image_bytes : (d : Device) → IsDevice d → IsBytes (image_of d)
image_bytes Bank h = record { fits = λ place. omega arith }
image_bytes (Cppc image) h = h

one_more : (cpus : List Binding) (caps : List CapLine) (id flags : ℕ) (d : Device) (m : Option Subspace) (more : List Opened) → IsBytes (image_of d)
    → HaveBytes (map (equipped cpus caps) more) → HaveBytes (map (equipped cpus caps) (opened_with d id flags m ++ more))
one_more cpus caps id flags d None more b h = h
one_more cpus caps id flags d (Some u) more b h = (b, h)

images_bytes : (t : Table) (cpus : List Binding) (caps : List CapLine) (opens : List OpenLine) → AllByRecursion IsOpen opens → HaveBytes (map (equipped cpus caps) (opened_by t opens))
images_bytes t cpus caps [] h = tt
images_bytes t cpus caps (o ∷ os) h =
    one_more cpus caps o.id t.flags o.device (slice_get t.subspaces o.id) (opened_by t os) (image_bytes o.device h.0.device) (images_bytes t cpus caps os h.1)

pub served_ranges : CanBeginAll → (c : Command) (input : List ℕ) (s : Scenario) (opened : List Opened) → (h : Serves c input s opened)
    → AreRanged opened (run_of s opened h.opens.checked.cpus).channels
served_ranges can c input s opened h =
    let bytes : HaveBytes (map (equipped h.opens.checked.cpus s.caps) (opened_by h.opens.table s.opens)) =
    images_bytes h.opens.table h.opens.checked.cpus s.caps s.opens (is_within s h.spells.scenario).opens in
    opened_ranges s opened h.opens (opens_apart h.opens.table s.opens h.opens.checked.all_open) (set_up_apart s opened h.opens) (can s opened h.opens) (subst HaveBytes (sym h.opens.list_is) bytes)
