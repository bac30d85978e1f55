-- The list of a controller's state decides the controller.
use Rattle.std.proofs.Common.{◌≡◌, ℕ, suc, ◌+◌, ◌*◌, List, [], ◌∷◌, ◌++◌, length, drop, refl, sym, ap, ◌∙◌, add_comm, mul-suc, mul-zero}
use Rattle.std.specs.List.{flat_map}
use Rattle.std.proofs.lemmas.List.{append_assoc, drop_at, length-append}
use Rattle.cpc_package.specs.declared.binding.Binding.{Binding}
use Rattle.cpc_package.specs.declared.binding.Source1.{Source1}
use Rattle.cpc_package.specs.declared.binding.Source1.TheVariants.{Missing, Number, At}
use Rattle.cppc_device.specs.declared.cap.Cap.{Cap}
use Rattle.cppc_device.specs.Devices.{Cppc}
use Rattle.cppc_device.specs.States.{after_items, binding_code, binding_in, binding_len, cap_code, cap_in, cap_len, cppc_in, cppc_state, items_in, source_code, source_in, source_len}

-- ---- items in a row

-- an item is read again, and its length is known from its numbers
pub record Coding {A : Type 0} (code : A → List ℕ) (read : List ℕ → A) (len : List ℕ → ℕ) : Type 0 where
  pub long : (x : A) (rest : List ℕ) → length (code x) ≡ len (code x ++ rest)
  pub back : (x : A) (rest : List ℕ) → read (code x ++ rest) ≡ x

items_back : {A : Type 0} (code : A → List ℕ) (read : List ℕ → A) (len : List ℕ → ℕ) → Coding code read len
    → (xs : List A) (rest : List ℕ) → items_in read len (length xs) (flat_map code xs ++ rest) ≡ xs
items_back {A = A} code read len coding [] rest = refl
items_back {A = A} code read len coding (x ∷ xs) rest =
    let more : List ℕ = flat_map code xs ++ rest in
    ap (items_in read len (suc (length xs))) (append_assoc (code x) (flat_map code xs) rest)
    ∙ ap (λ (first : A). first ∷ items_in read len (length xs) (drop (len (code x ++ more)) (code x ++ more))) (coding.back x more)
    ∙ ap (λ (numbers : List ℕ). x ∷ items_in read len (length xs) numbers) (drop_at (code x) more (len (code x ++ more)) (coding.long x more))
    ∙ ap (λ (others : List A). x ∷ others) (items_back code read len coding xs rest)

items_after : {A : Type 0} (code : A → List ℕ) (read : List ℕ → A) (len : List ℕ → ℕ) → Coding code read len
    → (xs : List A) (rest : List ℕ) → after_items len (length xs) (flat_map code xs ++ rest) ≡ rest
items_after {A = A} code read len coding [] rest = refl
items_after {A = A} code read len coding (x ∷ xs) rest =
    let more : List ℕ = flat_map code xs ++ rest in
    ap (after_items len (suc (length xs))) (append_assoc (code x) (flat_map code xs) rest)
    ∙ ap (after_items len (length xs)) (drop_at (code x) more (len (code x ++ more)) (coding.long x more))
    ∙ items_after code read len coding xs rest

-- ---- sources, bindings and caps

source_long : (s : Source1) → length (source_code s) ≡ 3
source_long Missing = refl
source_long (Number value) = refl
source_long (At field) = refl

source_back : (s : Source1) (rest : List ℕ) → source_in (source_code s ++ rest) ≡ s
source_back Missing rest = refl
source_back (Number value) rest = refl
source_back (At field) rest = refl

source_coding : Coding source_code source_in source_len
source_coding = record { long = λ s rest. source_long s; back = source_back }

three_more : (a b n : ℕ) → a ≡ 3 → b ≡ 3 * n → a + b ≡ 3 * suc n
three_more a b n p q = ap (λ (x : ℕ). x + b) p ∙ ap (λ (y : ℕ). 3 + y) q ∙ add_comm 3 (3 * n) ∙ sym (mul-suc 3 n)

sources_long : (sources : List Source1) → length (flat_map source_code sources) ≡ 3 * length sources
sources_long [] = sym (mul-zero 3)
sources_long (s ∷ sources) =
    length-append (source_code s) (flat_map source_code sources)
    ∙ three_more (length (source_code s)) (length (flat_map source_code sources)) (length sources) (source_long s) (sources_long sources)

binding_back : (cpu : Binding) (rest : List ℕ) → binding_in (binding_code cpu ++ rest) ≡ cpu
binding_back cpu rest =
    ap (λ (others : List Source1). record { subspace = cpu.subspace; sources = others })
    (items_back source_code source_in source_len source_coding cpu.sources rest)

binding_coding : Coding binding_code binding_in binding_len
binding_coding = record { long = λ cpu rest. ap (λ (n : ℕ). suc (suc n)) (sources_long cpu.sources); back = binding_back }

cap_coding : Coding cap_code cap_in cap_len
cap_coding = record { long = λ cap rest. refl; back = λ cap rest. refl }

-- ---- the controller

same_device : (device : Cppc) (cpus : List Binding) (caps : List Cap) (registers : List ℕ) → cpus ≡ device.cpus → caps ≡ device.caps
    → registers ≡ device.registers → record { cpus = cpus; caps = caps; count = device.count; registers = registers } ≡ device
same_device device cpus caps registers p q r =
    ap (λ (x : List Binding). record { cpus = x; caps = caps; count = device.count; registers = registers }) p
    ∙ ap (λ (x : List Cap). record { cpus = device.cpus; caps = x; count = device.count; registers = registers }) q
    ∙ ap (λ (x : List ℕ). record { cpus = device.cpus; caps = device.caps; count = device.count; registers = x }) r

pub state_back : (device : Cppc) → cppc_in (cppc_state device) ≡ device
unfolding cppc_in cppc_state
state_back device =
    let late : List ℕ = flat_map cap_code device.caps ++ device.registers in
    let past : after_items binding_len (length device.cpus) (flat_map binding_code device.cpus ++ late) ≡ late =
    items_after binding_code binding_in binding_len binding_coding device.cpus late in
    same_device device _ _ _
    (items_back binding_code binding_in binding_len binding_coding device.cpus late)
    (ap (items_in cap_in cap_len (length device.caps)) past ∙ items_back cap_code cap_in cap_len cap_coding device.caps device.registers)
    (ap (after_items cap_len (length device.caps)) past ∙ items_after cap_code cap_in cap_len cap_coding device.caps device.registers)
