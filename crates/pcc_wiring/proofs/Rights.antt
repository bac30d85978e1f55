-- The wiring of a structure without a fault is right.
use Rattle.std.proofs.Common.{◌≡◌, ◌≢◌, ℕ, suc, zero, ◌-◌, ◌*◌, ◌/◌, ◌%◌, ◌^◌, ◌<◌, ◌≤◌, ◌==◌, ◌&&◌, ◌||◌, not, min, Bool, true, false, [], ◌∷◌, Option, Some, None, Result, Ok, subst, bit_and, bit_or, refl, sym, ◌∙◌, arith}
use Rattle.std.proofs.lemmas.Bool.Decides.{nat_tests}
use Rattle.std.proofs.Math.Nat.{mod-eq_of_lt, pow-le-pow_right}
use Rattle.pcc_steps.specs.Kinds.{IsHeaded, is_headed, is_initiator, is_responder}
use Rattle.pcc_steps.specs.Wires.{IsRight}
use Rattle.pcc_steps.specs.declared.wiring.Wiring.{Wiring}
use Rattle.pcct_table.specs.declared.subspace.Subspace.{Subspace}
use Rattle.pcct_table.specs.Subspaces.{kind_of, memory_len_of}
use Rattle.pcct_table.specs.declared.other.Other.{Other}
use Rattle.pcct_table.specs.declared.subspace.Subspace.TheVariants as Sub
use Rattle.pcct_table.specs.declared.subspace.Subspace.TheVariants.{Generic, HwReduced1, HwReduced2, Initiator, Responder, HwRegister}
use Rattle.pcc_wiring.specs.declared.fault.Asks.{Asks}
use Rattle.pcc_wiring.specs.declared.fault.WiringFault.{WiringFault}
use Rattle.pcc_wiring.specs.declared.fault.WiringFault.TheVariants.{WrongRole, SpaceTooSmall, NoCheckMask, NeverClears, NeverSets}
use Rattle.pcc_wiring.specs.Faults.{fault_by, fault_of, Tells, first_of, is_asked_by, registers_fault, unless}
use Rattle.pcc_wiring.specs.Roles.{roles_of}
use Rattle.pcc_wiring.specs.declared.roles.Roles.{Roles}
use Rattle.pcc_wiring.specs.Wirings.{header_len, room_limit, wiring_with}

-- a register of 64 bits or more has all bits of a mask
pub wide : (width mask : ℕ) → 64 ≤ width → mask < 2 ^ 64 → mask ≡ mask % 2 ^ width
wide width mask le small =
    let more : 2 ^ 64 ≤ 2 ^ width = pow-le-pow_right {n = 2} (omega arith) le in
    let below : mask < 2 ^ width = omega (arith, more, small) in
    sym (mod-eq_of_lt below)

-- what holds where there is no fault
record Holds (roomy check clears sets : Bool) : Type 0 where
  is_roomy : roomy ≡ true
  is_seen : check ≡ true
  is_cleared : clears ≡ true
  is_set : sets ≡ true

none_holds : (asked roomy : Bool) (registers : Option WiringFault) (check clears sets : Bool) (a b c d e : WiringFault)
    → first_of (unless asked a ∷ unless roomy b ∷ registers ∷ first_of (unless check c ∷ unless clears d ∷ unless sets e ∷ []) ∷ []) ≡ None
    → Holds roomy check clears sets
none_holds false roomy registers check clears sets a b c d e none = absurd cc
none_holds true false registers check clears sets a b c d e none = absurd cc
none_holds true true (Some f) check clears sets a b c d e none = absurd cc
none_holds true true None false clears sets a b c d e none = absurd cc
none_holds true true None true false sets a b c d e none = absurd cc
none_holds true true None true true false a b c d e none = absurd cc
none_holds true true None true true true a b c d e none = record { is_roomy = refl; is_seen = refl; is_cleared = refl; is_set = refl }

record IsRoom (room : ℕ) : Type 0 where
  whole : room % 8 ≡ 0
  least : 8 ≤ room
  most : room ≤ 4096

words_whole : (n : ℕ) → (min room_limit (n / 8 * 8) ≢ 0) → IsRoom (min room_limit (n / 8 * 8))
words_whole n some = record { whole = omega arith; least = omega arith; most = omega arith }

nonzero : (n : ℕ) → not (n == 0) ≡ true → n ≢ 0
nonzero zero e = absurd cc
nonzero (suc n) e = λ z. cc

then_zero : (j : Bool) (n : ℕ) → (not j || n == 0) ≡ true → j ≡ true → n ≡ 0
then_zero true n e j = grind (arith, nat_tests)
then_zero false n e j = absurd cc

then_nonzero : (j : Bool) (n : ℕ) → (not j || not (n == 0)) ≡ true → j ≡ true → n ≢ 0
then_nonzero true n e j = nonzero n e
then_nonzero false n e j = absurd cc

-- what has no fault
record IsSound (w : Wiring) : Type 0 where
  room : IsRoom w.room
  check : (is_headed w.kind || not (w.check_mask == 0)) ≡ true
  clears : (not (is_initiator w.kind && w.joined) || bit_and (bit_or w.update.preserve w.update.set) w.check_mask == 0) ≡ true
  sets : (not (is_responder w.kind && w.joined) || not (bit_and w.update.set w.check_mask == 0)) ≡ true

is_sound : (id flags : ℕ) (asks : Asks) (s : Subspace) → fault_by asks (memory_len_of s) (roles_of s) (wiring_with 0 0 s) ≡ None → IsSound (wiring_with id flags s)
is_sound id flags asks s none =
    let w = wiring_with id flags s in
    let h = none_holds (is_asked_by w.kind asks) (not (w.room == 0)) (registers_fault w.kind (roles_of s))
    (is_headed w.kind || not (w.check_mask == 0))
    (not (is_initiator w.kind && w.joined) || bit_and (bit_or w.update.preserve w.update.set) w.check_mask == 0)
    (not (is_responder w.kind && w.joined) || not (bit_and w.update.set w.check_mask == 0))
    WrongRole (SpaceTooSmall (memory_len_of s)) NoCheckMask NeverClears NeverSets none in
    record {
      room = words_whole (memory_len_of s - header_len (kind_of s)) (nonzero _ h.is_roomy);
      check = h.is_seen;
      clears = h.is_cleared;
      sets = h.is_set;
    }

-- errors that are reported have a bit
told : (absent : Bool) (n : ℕ) → (not absent && not (n == 0)) ≡ true → n ≢ 0
told false n e = nonzero n e
told true n e = absurd cc

plain : (w : Wiring) → IsRoom w.room → IsHeaded w.kind → w.reports ≡ true → w.joined ≡ false → IsRight w
plain w r kind reports joined = record {
  kind = omega arith;
  whole = r.whole;
  least = r.least;
  most = r.most;
  reports = λ le. reports;
  check = λ le. absurd (omega arith);
  error = λ le e. absurd (omega arith);
  joined = λ x y. joined;
  clears = λ e. absurd (omega arith);
  sets = λ e. absurd (omega arith);
  quiet = λ e. absurd (omega arith);
}

pub is_right : (id flags : ℕ) (asks : Asks) (s : Subspace) → fault_of asks s ≡ None → IsRight (wiring_with id flags s)
is_right id flags asks (Generic t) none = plain _ (is_sound id flags asks (Generic t) none).room (omega arith) refl refl
is_right id flags asks (HwReduced1 t) none = plain _ (is_sound id flags asks (HwReduced1 t) none).room (omega arith) refl refl
is_right id flags asks (HwReduced2 t) none = plain _ (is_sound id flags asks (HwReduced2 t) none).room (omega arith) refl refl
is_right id flags asks (Initiator t) none =
    let h = is_sound id flags asks (Initiator t) none in
    record {
      kind = omega arith;
      whole = h.room.whole;
      least = h.room.least;
      most = h.room.most;
      reports = λ le. absurd (omega arith);
      check = λ le. nonzero _ h.check;
      error = λ le e. told _ _ e;
      joined = λ x y. absurd (x refl);
      clears = λ x j. then_zero _ _ h.clears j;
      sets = λ x. absurd (omega arith);
      quiet = λ x. absurd (omega arith);
    }
is_right id flags asks (Responder t) none =
    let h = is_sound id flags asks (Responder t) none in
    record {
      kind = omega arith;
      whole = h.room.whole;
      least = h.room.least;
      most = h.room.most;
      reports = λ le. absurd (omega arith);
      check = λ le. nonzero _ h.check;
      error = λ le e. told _ _ e;
      joined = λ x y. absurd (y refl);
      clears = λ x. absurd (omega arith);
      sets = λ x j. then_nonzero _ _ h.sets j;
      quiet = λ x. absurd (omega arith);
    }
is_right id flags asks (HwRegister t) none =
    let h = is_sound id flags asks (HwRegister t) none in
    record {
      kind = omega arith;
      whole = h.room.whole;
      least = h.room.least;
      most = h.room.most;
      reports = λ le. absurd (omega arith);
      check = λ le. nonzero _ h.check;
      error = λ le e. told _ _ e;
      joined = λ x y. refl;
      clears = λ x. absurd (omega arith);
      sets = λ x. absurd (omega arith);
      quiet = λ x. refl;
    }
is_right id flags asks (Sub.Other o) none = absurd cc

-- a structure of a known type has the faults of its wiring
pub known_fault : (asks : Asks) (s : Subspace) → ((o : Other) → s ≡ Sub.Other o → ⊥) → fault_of asks s ≡ fault_by asks (memory_len_of s) (roles_of s) (wiring_with 0 0 s)
known_fault asks (Generic t) known = refl
known_fault asks (HwReduced1 t) known = refl
known_fault asks (HwReduced2 t) known = refl
known_fault asks (Initiator t) known = refl
known_fault asks (Responder t) known = refl
known_fault asks (HwRegister t) known = refl
known_fault asks (Sub.Other o) known = absurd (known o refl)

-- the same of a structure whose tests were all passed
pub is_told_right : (asks : Asks) (id flags len : ℕ) (s : Subspace) (roles : Roles) (w : Wiring) (answer : Result (Unit {0}) WiringFault) (u : Unit {0})
    → ((o : Other) → s ≡ Sub.Other o → ⊥) → w ≡ wiring_with id flags s → roles ≡ roles_of s → len ≡ memory_len_of s
    → Tells answer (fault_by asks len roles w) → answer ≡ Ok u → IsRight w
is_told_right asks id flags len s roles w answer u known wired by_roles by_len tells ok =
    let h : fault_by asks len roles w ≡ None = subst (λ (t : Result (Unit {0}) WiringFault). Tells t (fault_by asks len roles w)) ok tells in
    let a = subst (λ (x : Wiring). fault_by asks len roles x ≡ None) wired h in
    let b = subst (λ (x : Roles). fault_by asks len x (wiring_with id flags s) ≡ None) by_roles a in
    let c = subst (λ (x : ℕ). fault_by asks x (roles_of s) (wiring_with id flags s) ≡ None) by_len b in
    rw wired (is_right id flags asks s (known_fault asks s known ∙ c))
