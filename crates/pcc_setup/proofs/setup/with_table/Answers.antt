use Rattle.std.proofs.Common.{length, map, sym, ◌∙◌, subst}
use Rattle.pcc_setup.specs.Equipment.{AreCapsRight, ArePlaces, CapRefused, IsStarting, StartInside, StartRefused, equipped}
use Rattle.pcc_setup.specs.Processors.{AreBound, CpuRefused}
use Rattle.pcc_setup.specs.RefusalText.{IsRefusedFor}
use Rattle.std.specs.List.{AllByRecursion}
use Rattle.pcc_setup.proofs.Checks.{few_by, housed_by, is_set_up, meeting, passed_on, places_are, two, wrong_action, wrong_cap, wrong_cpu, wrong_open, wrong_start}
use Rattle.pcc_setup.proofs.Controllers.{all_look}
use Rattle.pcc_setup.proofs.Housing.{small_rooms}
use Rattle.pcc_setup.proofs.setup.with_table.Goals as goal

pub returns-in_err-opened : goal.returns-in_err-opened
returns-in_err-opened c =
    passed_on c.args.scenario.now c.args.table.now c.from_residual.result c.in_err-opened.field-0.0 c.from_residual.ensures.1
    (wrong_open c.args.scenario.now c.args.table.now c.in_err-opened.field-0.0 c.in_err-opened.ensures)

pub returns-in_err-check_memories : goal.returns-in_err-check_memories
returns-in_err-check_memories c =
    passed_on c.args.scenario.now c.args.table.now c.from_residual-in_err-check_memories.result c.in_err-check_memories.field-0.0 c.from_residual-in_err-check_memories.ensures.1
    (meeting c.args.scenario.now c.args.table.now c.in_err-check_memories.field-0.0 c.in_ok-opened.ensures.1 c.in_err-check_memories.ensures)

pub bind_all-requires-clause-small : goal.bind_all-requires-clause-small
bind_all-requires-clause-small c = small_rooms c.args.table.now c.deref.result.now c.args.scenario.now.opens (c.deref.ensures.value ∙ c.in_ok-opened.ensures.0)

pub returns-in_err-cpus : goal.returns-in_err-cpus
returns-in_err-cpus c =
    passed_on c.args.scenario.now c.args.table.now c.from_residual-in_err-cpus.result c.in_err-cpus.field-0.0 c.from_residual-in_err-cpus.ensures.1
    (wrong_cpu c.args.scenario.now c.args.table.now c.in_ok-opened.opened.items c.in_err-cpus.field-0.0 c.in_ok-opened.ensures.1 c.in_ok-check_memories.ensures c.in_ok-opened.ensures.0
    (subst (λ v. IsRefusedFor (CpuRefused v c.args.scenario.now.cpus) c.in_err-cpus.field-0.0) c.deref.ensures.value c.in_err-cpus.ensures))

pub returns-in_err-check_caps : goal.returns-in_err-check_caps
returns-in_err-check_caps c =
    passed_on c.args.scenario.now c.args.table.now c.from_residual-in_err-check_caps.result c.in_err-check_caps.field-0.0 c.from_residual-in_err-check_caps.ensures.1
    (wrong_cap c.args.scenario.now c.args.table.now c.in_ok-opened.opened.items c.in_ok-cpus.cpus.items c.in_err-check_caps.field-0.0 c.in_ok-opened.ensures.1 c.in_ok-check_memories.ensures c.in_ok-opened.ensures.0
    (subst (λ v. AreBound v c.args.scenario.now.cpus c.in_ok-cpus.cpus.items) c.deref.ensures.value c.in_ok-cpus.ensures)
    (two (λ os caps. IsRefusedFor (CapRefused os caps) c.in_err-check_caps.field-0.0) c.deref-2.result.now c.in_ok-opened.opened.items c.as_slice.result.now c.args.scenario.now.caps c.deref-2.ensures.value c.as_slice.ensures
    c.in_err-check_caps.ensures))

pub check_starts-requires : goal.check_starts-requires
check_starts-requires c =
    two (λ os cpus. AllByRecursion (IsStarting os) cpus) c.in_ok-opened.opened.items c.deref-3.result.now c.in_ok-cpus.cpus.items c.deref-4.result.now
    (sym c.deref-3.ensures.value) (sym c.deref-4.ensures.value)
    (all_look c.args.table.now c.args.scenario.now.opens c.in_ok-opened.opened.items c.args.scenario.now.cpus c.in_ok-cpus.cpus.items c.in_ok-opened.ensures.1 c.in_ok-opened.ensures.0
    (subst (λ v. AreBound v c.args.scenario.now.cpus c.in_ok-cpus.cpus.items) c.deref.ensures.value c.in_ok-cpus.ensures))

pub returns-in_err-check_starts : goal.returns-in_err-check_starts
returns-in_err-check_starts c =
    passed_on c.args.scenario.now c.args.table.now c.from_residual-in_err-check_starts.result c.in_err-check_starts.field-0.0 c.from_residual-in_err-check_starts.ensures.1
    (wrong_start c.args.scenario.now c.args.table.now c.in_ok-opened.opened.items c.in_ok-cpus.cpus.items c.in_err-check_starts.field-0.0 c.in_ok-opened.ensures.1 c.in_ok-check_memories.ensures c.in_ok-opened.ensures.0
    (subst (λ v. AreBound v c.args.scenario.now.cpus c.in_ok-cpus.cpus.items) c.deref.ensures.value c.in_ok-cpus.ensures)
    (two (λ os caps. AreCapsRight os caps (length caps)) c.deref-2.result.now c.in_ok-opened.opened.items c.as_slice.result.now c.args.scenario.now.caps c.deref-2.ensures.value c.as_slice.ensures c.in_ok-check_caps.ensures)
    (two (λ os cpus. IsRefusedFor (StartRefused os cpus) c.in_err-check_starts.field-0.0) c.deref-3.result.now c.in_ok-opened.opened.items c.deref-4.result.now c.in_ok-cpus.cpus.items c.deref-3.ensures.value c.deref-4.ensures.value
    c.in_err-check_starts.ensures))

pub returns-in_err-check_actions : goal.returns-in_err-check_actions
returns-in_err-check_actions c =
    passed_on c.args.scenario.now c.args.table.now c.from_residual-in_err-check_actions.result c.in_err-check_actions.field-0.0 c.from_residual-in_err-check_actions.ensures.1
    (wrong_action c.args.scenario.now c.args.table.now c.in_ok-opened.opened.items c.in_ok-cpus.cpus.items c.in_err-check_actions.field-0.0 c.in_ok-opened.ensures.1 c.in_ok-check_memories.ensures c.in_ok-opened.ensures.0
    (subst (λ v. AreBound v c.args.scenario.now.cpus c.in_ok-cpus.cpus.items) c.deref.ensures.value c.in_ok-cpus.ensures)
    (two (λ os caps. AreCapsRight os caps (length caps)) c.deref-2.result.now c.in_ok-opened.opened.items c.as_slice.result.now c.args.scenario.now.caps c.deref-2.ensures.value c.as_slice.ensures c.in_ok-check_caps.ensures)
    (two (λ os cpus. StartInside os cpus (length cpus)) c.deref-3.result.now c.in_ok-opened.opened.items c.deref-4.result.now c.in_ok-cpus.cpus.items c.deref-3.ensures.value c.deref-4.ensures.value c.in_ok-check_starts.ensures)
    c.in_err-check_actions.ensures)

pub places_of-requires-clause-housed : goal.places_of-requires-clause-housed
places_of-requires-clause-housed c =
    housed_by c.args.table.now c.args.scenario.now.opens c.args.scenario.now.cpus c.args.scenario.now.caps c.as_slice-2.result.now c.in_ok-opened.opened.items c.equip_all.new.opened.items
    c.deref-6.result.now c.in_ok-cpus.cpus.items c.deref-5.result.now c.deref-7.result.now c.in_ok-opened.ensures.0
    (subst (λ v. AreBound v c.args.scenario.now.cpus c.in_ok-cpus.cpus.items) c.deref.ensures.value c.in_ok-cpus.ensures)
    c.deref-5.ensures.value c.deref-7.ensures.value c.in_ok-equip_all.ensures c.deref-6.ensures.value

pub places_of-requires-clause-few : goal.places_of-requires-clause-few
places_of-requires-clause-few c =
    few_by c.args.scenario.now.table c.args.table.now c.args.scenario.now.opens c.deref-5.result.now c.as_slice-2.result.now c.in_ok-opened.opened.items c.equip_all.new.opened.items
    c.deref-6.result.now c.requires.bytes c.in_ok-opened.ensures.1 c.in_ok-opened.ensures.0 c.in_ok-equip_all.ensures c.deref-6.ensures.value

pub returns : goal.returns
returns c =
    let made = c.from_vec.ensures ∙ c.in_ok-equip_all.ensures ∙ (λ i. map (equipped (c.deref-5.ensures.value i) (c.as_slice-2.ensures i)) c.in_ok-opened.opened.items) in
    let bound = (subst (λ v. AreBound v c.args.scenario.now.cpus c.in_ok-cpus.cpus.items) c.deref.ensures.value c.in_ok-cpus.ensures) in
    let placed = two (λ opened cpus. ArePlaces opened cpus c.in_ok-places.places) c.deref-6.result.now c.from_vec.result c.deref-7.result.now c.in_ok-cpus.cpus.items
    (c.deref-6.ensures.value ∙ sym c.from_vec.ensures) c.deref-7.ensures.value c.in_ok-places.ensures in
    record {
      opens = is_set_up c.args.scenario.now c.args.table.now c.in_ok-opened.opened.items c.from_vec.result c.in_ok-cpus.cpus.items c.requires.bytes c.in_ok-opened.ensures.1 c.in_ok-check_memories.ensures c.in_ok-opened.ensures.0 bound
          (two (λ os caps. AreCapsRight os caps (length caps)) c.deref-2.result.now c.in_ok-opened.opened.items c.as_slice.result.now c.args.scenario.now.caps c.deref-2.ensures.value c.as_slice.ensures c.in_ok-check_caps.ensures)
          (two (λ os cpus. StartInside os cpus (length cpus)) c.deref-3.result.now c.in_ok-opened.opened.items c.deref-4.result.now c.in_ok-cpus.cpus.items c.deref-3.ensures.value c.deref-4.ensures.value c.in_ok-check_starts.ensures)
          c.in_ok-check_actions.ensures made;
      places = places_are c.args.scenario.now c.args.table.now c.in_ok-opened.opened.items c.from_vec.result c.in_ok-cpus.cpus.items c.in_ok-places.places c.requires.bytes c.in_ok-opened.ensures.0 bound placed;
    }
