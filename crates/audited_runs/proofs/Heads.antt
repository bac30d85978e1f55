-- The head of the journal of what a script opens: its numbers are in the ranges of their fields.
use Rattle.std.proofs.Common.{◌≡◌, ℕ, zero, suc, ◌-◌, ◌*◌, ◌/◌, ◌<◌, ◌≤◌, List, [], ◌∷◌, ◌++◌, length, drop, slice_index, map, refl, sym, subst, arith}
use Rattle.std.specs.Prelude.{Option, Some, None, slice_get}
use Rattle.std.specs.List.{AllByRecursion}
use Rattle.std.proofs.Math.Nat.{min-le_left}
use Rattle.std.proofs.lemmas.List.{drop_at, take_at}
use Rattle.std.proofs.lemmas.Option.{same_Some}
use Rattle.pcc_bytes.specs.Bytes.{IsBytes}
use Rattle.pcc_bytes.proofs.Bytes.{IsBytes-drop, IsBytes-nil, IsBytes-take}
use Rattle.pcct_table.specs.ShowText.{fields_shown}
use Rattle.pcct_table.specs.Subspaces.{IsSubspace, kind_of, memory_len_of, rate_of, turnaround_of, values_of}
use Rattle.pcct_table.specs.declared.subspace.Subspace.{Subspace}
use Rattle.pcct_table.specs.declared.subspace.Subspace.TheVariants as sub
use Rattle.pcct_table.specs.declared.table.Table.{Table}
use Rattle.pcct_table.proofs.ShowLine.{structure_fits}
use Rattle.pcct_table.proofs.ShowWords.{AllFit}
use Rattle.pcct_codec.specs.Tables.{Structures, TableBytes}
use Rattle.pcct_table.specs.Rows.{Field, header_size}
use Rattle.pcct_table.specs.Values.{Value}
use Rattle.journal_reading.specs.Told.{IsHead, most_8, most_32}
use Rattle.cpc_package.specs.declared.binding.Binding.{Binding}
use Rattle.pcc_script.specs.Limits.{IsDevice, IsOpen, IsWithin}
use Rattle.pcc_script.specs.declared.scenario.CapLine.{CapLine}
use Rattle.pcc_script.specs.declared.scenario.Device.{Device}
use Rattle.pcc_script.specs.declared.scenario.Device.TheVariants.{Bank, Cppc}
use Rattle.pcc_script.specs.declared.scenario.OpenLine.{OpenLine}
use Rattle.pcc_script.specs.declared.scenario.Scenario.{Scenario}
use Rattle.pcc_wiring.specs.Wirings.{header_len, room_limit}
use Rattle.pcc_setup.specs.Equipment.{equipped}
use Rattle.pcc_setup.specs.Openings.{head_of, image_of, opened_by, opened_with}
use Rattle.pcc_setup.specs.SetUps.{Opens}
use Rattle.pcc_setup.specs.declared.opening.Opened.{Opened}

-- ---- structures

-- each of the structures that bytes spell
structures_parts : (bytes : List ℕ) (ss : List Subspace) → IsBytes bytes → Structures bytes ss → AllByRecursion IsSubspace ss
structures_parts bytes [] fits h = tt
structures_parts bytes (s ∷ ss) fits h =
    let b = h.0 in
    let rest = h.1 in
    let all : IsBytes (b ++ rest) = subst IsBytes h.2 fits in
    let here : IsBytes b = subst IsBytes (take_at b rest (length b) refl) (IsBytes-take (length b) (b ++ rest) all) in
    let later : IsBytes rest = subst IsBytes (drop_at b rest (length b) refl) (IsBytes-drop (length b) (b ++ rest) all) in
    (record { bytes = b; fit = here; spell = h.3 }, structures_parts rest ss later h.4)

pub table_structures : (bytes : List ℕ) (t : Table) → IsBytes bytes → TableBytes bytes t → AllByRecursion IsSubspace t.subspaces
table_structures bytes t fits h = structures_parts (drop header_size bytes) t.subspaces (IsBytes-drop header_size bytes fits) h.structures

all_at : {X : Type 0} (P : X → Type 0) (xs : List X) (i : ℕ) (x : X) → AllByRecursion P xs → slice_get xs i ≡ Some x → P x
all_at P [] i x h e = absurd cc
all_at P (y ∷ ys) zero x h e = subst P (same_Some y x e) h.0
all_at P (y ∷ ys) (suc i) x h e = all_at P ys i x h.1 e

-- ---- the head of a structure

kind_small : (s : Subspace) → IsSubspace s → kind_of s ≤ most_8
kind_small s h =
    let byte : slice_index h.bytes 0 < 256 = h.fit.fits 0 in
    let kind : slice_index h.bytes 0 ≡ kind_of s = h.spell.kind in
    omega (arith, byte, kind)

-- its rate and its turnaround
record AreTimes (s : Subspace) : Type 0 where
  rate : rate_of s ≤ most_32
  turnaround : turnaround_of s ≤ most_32

-- the values from a place on fit too
fit_from : (n : ℕ) (fs : List Field) (vs : List Value) → AllFit fs vs → AllFit (drop n fs) (drop n vs)
fit_from zero fs vs h = h
fit_from (suc n) [] [] h = tt
fit_from (suc n) [] (v ∷ vs) h = absurd h
fit_from (suc n) (f ∷ fs) [] h = absurd h
fit_from (suc n) (f ∷ fs) (v ∷ vs) h = fit_from n fs vs h.1

times_by : (s : Subspace) → AllFit (fields_shown s) (values_of s) → AreTimes s
times_by (sub.Generic t) h = let k = fit_from 7 (fields_shown (sub.Generic t)) (values_of (sub.Generic t)) h in let r = k.0 in let a = k.1.0 in record { rate = omega (arith, r); turnaround = omega (arith, a) }
times_by (sub.HwReduced1 t) h = let k = fit_from 9 (fields_shown (sub.HwReduced1 t)) (values_of (sub.HwReduced1 t)) h in let r = k.0 in let a = k.1.0 in record { rate = omega (arith, r); turnaround = omega (arith, a) }
times_by (sub.HwReduced2 t) h = let k = fit_from 9 (fields_shown (sub.HwReduced2 t)) (values_of (sub.HwReduced2 t)) h in let r = k.0 in let a = k.1.0 in record { rate = omega (arith, r); turnaround = omega (arith, a) }
times_by (sub.Initiator t) h = let k = fit_from 9 (fields_shown (sub.Initiator t)) (values_of (sub.Initiator t)) h in let r = k.0 in let a = k.1.0 in record { rate = omega (arith, r); turnaround = omega (arith, a) }
times_by (sub.Responder t) h = let k = fit_from 9 (fields_shown (sub.Responder t)) (values_of (sub.Responder t)) h in let r = k.0 in let a = k.1.0 in record { rate = omega (arith, r); turnaround = omega (arith, a) }
times_by (sub.HwRegister t) h = let k = fit_from 11 (fields_shown (sub.HwRegister t)) (values_of (sub.HwRegister t)) h in let a = k.0 in record { rate = omega arith; turnaround = omega (arith, a) }
times_by (sub.Other o) h = record { rate = omega arith; turnaround = omega arith }

head_small : (d : Device) (id : ℕ) (s : Subspace) → id ≤ 255 → IsSubspace s → IsHead (head_of d id s)
head_small d id s small h =
    let few = min-le_left room_limit ((memory_len_of s - header_len (kind_of s)) / 8 * 8) in
    let times : AreTimes s = times_by s (structure_fits s h) in
    record { id = small; kind = kind_small s h; room = omega (arith, few); turnaround = times.turnaround; rate = times.rate }

-- ---- what is opened

image_bytes : (d : Device) → IsDevice d → IsBytes (image_of d)
image_bytes Bank h = IsBytes-nil
image_bytes (Cppc image) h = h

-- its head is told, and its image is bytes
pub record IsShown (o : Opened) : Type 0 where
  pub head : IsHead o.head
  pub image : IsBytes o.image

opened_shown : (t : Table) (opens : List OpenLine) → AllByRecursion IsOpen opens → AllByRecursion IsSubspace t.subspaces → AllByRecursion IsShown (opened_by t opens)
opened_shown t [] h k = tt
opened_shown t (o ∷ os) h k = by (slice_get t.subspaces o.id) refl (opened_shown t os h.1 k)
  where
    by : (m : Option Subspace) → slice_get t.subspaces o.id ≡ m → AllByRecursion IsShown (opened_by t os)
        → AllByRecursion IsShown (opened_with o.device o.id t.flags m ++ opened_by t os)
    by None e rest = rest
    by (Some s) e rest =
        let id : o.id ≤ 255 = h.0.id in
        (record { head = head_small o.device o.id s id (all_at IsSubspace t.subspaces o.id s k e); image = image_bytes o.device h.0.device }, rest)

equipped_shown : (cpus : List Binding) (caps : List CapLine) (os : List Opened) → AllByRecursion IsShown os → AllByRecursion IsShown (map (equipped cpus caps) os)
equipped_shown cpus caps [] h = tt
equipped_shown cpus caps (o ∷ os) h = (record { head = h.0.head; image = h.0.image }, equipped_shown cpus caps os h.1)

pub all_shown : (s : Scenario) (os : List Opened) → IsWithin s → Opens s os → AllByRecursion IsShown os
all_shown s os within h =
    subst (AllByRecursion IsShown) (sym h.list_is)
    (equipped_shown h.checked.cpus s.caps (opened_by h.table s.opens)
    (opened_shown h.table s.opens within.opens (table_structures s.table h.table within.table h.checked.table)))

-- the head has the room of the wiring
abbrev HasOneRoom : Opened → Type 0
HasOneRoom o = o.head.room ≡ o.wiring.room

opened_rooms : (t : Table) (opens : List OpenLine) → AllByRecursion HasOneRoom (opened_by t opens)
opened_rooms t [] = tt
opened_rooms t (o ∷ os) = by (slice_get t.subspaces o.id) (opened_rooms t os)
  where
    by : (m : Option Subspace) → AllByRecursion HasOneRoom (opened_by t os) → AllByRecursion HasOneRoom (opened_with o.device o.id t.flags m ++ opened_by t os)
    by None h = h
    by (Some s) h = (refl, h)

equipped_rooms : (cpus : List Binding) (caps : List CapLine) (os : List Opened) → AllByRecursion HasOneRoom os → AllByRecursion HasOneRoom (map (equipped cpus caps) os)
equipped_rooms cpus caps [] h = tt
equipped_rooms cpus caps (o ∷ os) h = (h.0, equipped_rooms cpus caps os h.1)

pub all_rooms : (s : Scenario) (os : List Opened) → Opens s os → AllByRecursion (λ o. o.head.room ≡ o.wiring.room) os
all_rooms s os h = subst (AllByRecursion HasOneRoom) (sym h.list_is) (equipped_rooms h.checked.cpus s.caps (opened_by h.table s.opens) (opened_rooms h.table s.opens))
