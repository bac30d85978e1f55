-- What a command leaves, and what a controller begins with.
use Rattle.std.proofs.Common.{◌≡◌, ℕ, zero, suc, ◌+◌, ◌-◌, ◌^◌, ◌<◌, ◌≤◌, min, Bool, true, false, cond, eqb, ltb, replicate, take, List, [], ◌∷◌, ◌++◌, length, get_or, Option, Some, None, refl, sym, ap, ◌∙◌, subst, add-sub_of_le, arith}
use Rattle.std.specs.Prelude.{AllPairs, flat_map}
use Rattle.std.proofs.lemmas.Bool.{ltb-true, ne_eqb}
use Rattle.std.proofs.lemmas.List.{length-append, length-replicate, take_all}
use Rattle.pcc_bytes.specs.Bytes.{IsBytes}
use Rattle.pcc_gas.specs.Changes.{with_changes}
use Rattle.pcc_gas.specs.declared.change.Change.{Change}
use Rattle.pcc_gas.proofs.Changes.{changes-length}
use Rattle.pcc_history.specs.Devices.{Executed}
use Rattle.cpc_package.specs.Bindings.{AreProcessors}
use Rattle.cpc_package.specs.declared.binding.Binding.{Binding}
use Rattle.cppc_device.specs.declared.cap.Cap.{Cap}
use Rattle.cppc_device.specs.Devices.{Cppc, IsDevice, after_changes, in_force, sampled, sampled_of, written, written_of}
use Rattle.cppc_device.specs.Keeps.{exec_is, room_is}
use Rattle.cppc_device.specs.Openings.{cap_order, order_after}
use Rattle.cppc_device.specs.States.{cppc_exec, cppc_room, cppc_state}

-- ---- a good command

abbrev pub device : List Binding → List Cap → ℕ → List ℕ → Cppc
device cpus caps count registers = record { cpus = cpus; caps = caps; count = count; registers = registers }

same_next : (cpus : List Binding) (caps : List Cap) (m n : ℕ) (a b : List ℕ) → m ≡ n → a ≡ b → device cpus caps m a ≡ device cpus caps n b
same_next cpus caps m n a b p q = ap (λ (k : ℕ). device cpus caps k a) p ∙ ap (device cpus caps n) q

pub after_read : (self : Cppc) (cpus : List Binding) (caps : List Cap) (count next : ℕ) (old new : List ℕ) (cap : Option ℕ)
    → device cpus caps count old ≡ self → cap ≡ in_force caps count → new ≡ with_changes (flat_map (sampled_of cap old) cpus) old
    → next ≡ min (count + 1) (2 ^ 64 - 1) → device cpus caps next new ≡ after_changes self (sampled self)
unfolding sampled
after_read self cpus caps count next old new cap view is_cap is_new is_next =
    same_next cpus caps next (min (count + 1) (2 ^ 64 - 1)) new (with_changes (flat_map (sampled_of (in_force caps count) old) cpus) old) is_next
    (is_new ∙ ap (λ (c : Option ℕ). with_changes (flat_map (sampled_of c old) cpus) old) is_cap)
    ∙ ap (λ (d : Cppc). after_changes d (sampled d)) view

pub after_write : (self : Cppc) (cpus : List Binding) (caps : List Cap) (count next : ℕ) (old new space : List ℕ)
    → device cpus caps count old ≡ self → new ≡ with_changes (flat_map (written_of space) cpus) old
    → next ≡ min (count + 1) (2 ^ 64 - 1) → device cpus caps next new ≡ after_changes self (written self space)
unfolding written
after_write self cpus caps count next old new space view is_new is_next =
    same_next cpus caps next (min (count + 1) (2 ^ 64 - 1)) new (with_changes (flat_map (written_of space) cpus) old) is_next is_new
    ∙ ap (λ (d : Cppc). after_changes d (written d space)) view

-- ---- by its state

abbrev pub left : Cppc → List ℕ → Executed
left self space = record { state = cppc_state self; bad = false; space = space }

gives : (self next : Cppc) (out : List ℕ) → self ≡ next → out ≡ self.registers → left next next.registers ≡ left self out
gives self next out made given = ap (λ (d : Cppc). left d d.registers) (sym made) ∙ ap (left self) (sym given)

pub exec_read : (self next : Cppc) (code : ℕ) (space out : List ℕ) → code ≡ 0 → next ≡ after_changes self (sampled self) → out ≡ next.registers
    → cppc_exec (cppc_state self) code space ≡ left next out
exec_read self next code space out is made given =
    ap (λ (n : ℕ). cppc_exec (cppc_state self) n space) is ∙ exec_is self 0 space ∙ gives next (after_changes self (sampled self)) out made given

pub exec_write : (self next : Cppc) (code : ℕ) (space out : List ℕ) → code ≡ 1 → next ≡ after_changes self (written self space) → out ≡ next.registers
    → cppc_exec (cppc_state self) code space ≡ left next out
exec_write self next code space out is made given =
    ap (λ (n : ℕ). cppc_exec (cppc_state self) n space) is ∙ exec_is self 1 space ∙ gives next (after_changes self (written self space)) out made given

other_code : {A : Type 0} (b c : Bool) (x y z : A) → b ≡ false → c ≡ false → cond b x (cond c y z) ≡ z
other_code b c x y z p q = rw (p, q) refl

pub exec_bad : (self : Cppc) (code : ℕ) (space : List ℕ) → (code ≡ 0 → ⊥) → (code ≡ 1 → ⊥)
    → cppc_exec (cppc_state self) code space ≡ record { state = cppc_state self; bad = true; space = space }
exec_bad self code space not_read not_write =
    exec_is self code space ∙ other_code (eqb code 0) (eqb code 1) _ _ _ (ne_eqb code 0 not_read) (ne_eqb code 1 not_write)

pub room_kept : (self next : Cppc) (changes : List Change) → next ≡ after_changes self changes → cppc_room (cppc_state next) ≡ cppc_room (cppc_state self)
room_kept self next changes made =
    room_is next ∙ ap (λ (d : Cppc). length d.registers) made ∙ changes-length changes self.registers ∙ sym (room_is self)

-- ---- the opening

passed : {A : Type 0} (b : Bool) (o : Option A) (x : A) → cond b o (Some x) ≡ None → (b ≡ true) × (o ≡ None)
passed true o x e = (refl, e)
passed false o x e = absurd cc

-- caps that begin after a count, one after the other
pub record Rising (count : ℕ) (caps : List Cap) : Type 0 where
  pub above : (k : ℕ) (d : Cap) → k < length caps → count < (get_or caps k d).count
  pub pairs : AllPairs (λ a b. a.count < b.count) caps

rising_above : (count : ℕ) (cap : Cap) (caps : List Cap) → count < cap.count → Rising cap.count caps → (k : ℕ) (d : Cap) → k < length (cap ∷ caps)
    → count < (get_or (cap ∷ caps) k d).count
rising_above count cap caps lt rest zero d within = lt
rising_above count cap caps lt rest (suc k) d within =
    let later : cap.count < (get_or caps k d).count = rest.above k d (omega arith) in
    omega arith

rising_pairs : (cap : Cap) (caps : List Cap) → Rising cap.count caps → (i j : ℕ) (d : Cap) → i < j → j < length (cap ∷ caps)
    → (get_or (cap ∷ caps) i d).count < (get_or (cap ∷ caps) j d).count
rising_pairs cap caps rest i zero d lt within = absurd (omega arith)
rising_pairs cap caps rest zero (suc j) d lt within = rest.above j d (omega arith)
rising_pairs cap caps rest (suc i) (suc j) d lt within = rest.pairs i j d (omega arith) (omega arith)

rising : (count n : ℕ) (caps : List Cap) → order_after count n caps ≡ None → Rising count caps
rising count n [] h = record { above = λ k d lt. absurd (omega arith); pairs = λ i j d lt within. absurd (omega arith) }
rising count n (cap ∷ caps) h =
    let p = passed (ltb count cap.count) (order_after cap.count (n + 1) caps) n h in
    let rest : Rising cap.count caps = rising cap.count (n + 1) caps p.1 in
    record { above = rising_above count cap caps (ltb-true count cap.count p.0) rest; pairs = rising_pairs cap caps rest }

in_order : (caps : List Cap) → cap_order caps ≡ None → AllPairs (λ a b. a.count < b.count) caps
in_order [] h = λ i j d lt within. absurd (omega arith)
in_order (cap ∷ caps) h = rising_pairs cap caps (rising cap.count 1 caps h)

pub opens : (room : ℕ) (cpus xs : List Binding) (caps ys : List Cap) (registers : List ℕ) → AreProcessors room cpus → cap_order caps ≡ None
    → xs ≡ cpus → ys ≡ caps → length registers ≡ room → IsBytes registers → IsDevice (device xs ys 0 registers)
opens room cpus xs caps ys registers processors ordered is_cpus is_caps long bytes =
    subst (λ (zs : List Binding). IsDevice (device zs ys 0 registers)) (sym is_cpus)
    (subst (λ (zs : List Cap). IsDevice (device cpus zs 0 registers)) (sym is_caps) (record {
      cpus = subst (λ (len : ℕ). AreProcessors len cpus) (sym long) processors;
      caps = in_order caps ordered;
      bytes = bytes;
    }))

pub room_long : (room : ℕ) (image registers : List ℕ) → length image ≤ room → registers ≡ image ++ replicate (room - length image) 0 → length registers ≡ room
room_long room image registers le is =
    ap length is ∙ length-append image (replicate (room - length image) 0)
    ∙ ap (λ (n : ℕ). length image + n) (length-replicate (room - length image) 0) ∙ add-sub_of_le le

pub all_taken : (room : ℕ) (image : List ℕ) → length image ≤ room → take room image ≡ image
all_taken room image le = take_all room image le
