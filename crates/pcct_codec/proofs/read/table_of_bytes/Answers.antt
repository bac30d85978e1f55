use Rattle.std.proofs.Common.{◌≡◌, ◌≢◌, ℕ, ◌-◌, ◌<◌, List, length, take, sym, ap, ◌∙◌, subst, arith, true, Ok, Err}
use Rattle.std.specs.List.{slice_range}
use Rattle.std.proofs.lemmas.Grind.{common_steps}
use Rattle.pcct_codec.specs.Faults.{FaultIs, Right, decision, table_decision, told_length}
use Rattle.pcct_codec.specs.Tables.{TableBytes}
use Rattle.pcct_codec.specs.declared.fault.TableFault.TheVariants.{NoMemory, ReadFault, Short}
use Rattle.pcct_codec.proofs.Decisions.{short_header, short_table}
use Rattle.pcct_codec.proofs.Fronts.{front_decided, front_fault, front_only, front_told, header_fault, memory_only, only_memory}
use Rattle.pcct_codec.proofs.Headers.{told_ok}
use Rattle.pcct_codec.proofs.Passing.{err_from, err_not, match_from}
use Rattle.pcct_codec.proofs.read.table_of_bytes.Goals as goal

front_is : (b front : List ℕ) (n : ℕ) → front ≡ slice_range b 0 n → front ≡ take n b
front_is b front n e = let same : n - 0 ≡ n = omega arith in e ∙ ap (λ (m : ℕ). take m b) same

pub returns-then-bytes-lt-HEADER_BYTES-clause-exact : goal.returns-then-bytes-lt-HEADER_BYTES-clause-exact
returns-then-bytes-lt-HEADER_BYTES-clause-exact c = short_header c.args.bytes.now c.if-bytes-lt-HEADER_BYTES.true

pub returns-in_err-len-clause-only : goal.returns-in_err-len-clause-only
returns-in_err-len-clause-only c = λ front rest t h e.
    let told : told_length c.args.bytes.now ≡ Err c.in_err-len.field-0.0 = sym c.told_length.ensures ∙ c.in_err-len.was in
    match_from (λ x. (x.0 ≡ t) × (x.1 ≡ length front)) (λ f. f ≡ NoMemory) _ _ c.from_residual.ensures.1 (only_memory _ c.args.bytes.now (header_fault _ _ c.if-bytes-lt-HEADER_BYTES.false told) front rest t h e)

pub returns-in_err-len-clause-exact : goal.returns-in_err-len-clause-exact
returns-in_err-len-clause-exact c =
    let told : told_length c.args.bytes.now ≡ Err c.in_err-len.field-0.0 = sym c.told_length.ensures ∙ c.in_err-len.was in
    match_from (λ x. decision true c.args.bytes.now ≡ Right) (λ f. FaultIs f (decision true c.args.bytes.now)) _ _ c.from_residual.ensures.1 (header_fault _ _ c.if-bytes-lt-HEADER_BYTES.false told)

pub returns-in_err-len-clause-in_memory : goal.returns-in_err-len-clause-in_memory
returns-in_err-len-clause-in_memory c = λ e.
    let told : told_length c.args.bytes.now ≡ Err c.in_err-len.field-0.0 = sym c.told_length.ensures ∙ c.in_err-len.was in
    err_not _ ReadFault (err_from (λ f. f ≢ ReadFault) _ _ c.from_residual.ensures.1 (memory_only _ c.args.bytes.now (header_fault _ _ c.if-bytes-lt-HEADER_BYTES.false told))) e

pub overflow_cast-result-in_default : goal.overflow_cast-result-in_default
overflow_cast-result-in_default c =
    let told : told_length c.args.bytes.now ≡ Ok c.in_ok-len.len = sym c.told_length.ensures ∙ c.in_ok-len.was in
    let most = (told_ok _ _ told).most in
    let short = c.in_default.ensures.lookup.0 in
    grind (arith, common_steps)

pub returns-in_default-clause-only : goal.returns-in_default-clause-only
returns-in_default-clause-only c = λ front rest t h e.
    let told : told_length c.args.bytes.now ≡ Ok c.in_ok-len.len = sym c.told_length.ensures ∙ c.in_ok-len.was in
    let short : length c.args.bytes.now < c.in_ok-len.len = let s = c.in_default.ensures.lookup.0 in grind (arith, common_steps) in
    only_memory (Short (length c.args.bytes.now)) c.args.bytes.now (short_table _ _ c.if-bytes-lt-HEADER_BYTES.false told short) front rest t h e

pub returns-in_default-clause-exact : goal.returns-in_default-clause-exact
returns-in_default-clause-exact c =
    let told : told_length c.args.bytes.now ≡ Ok c.in_ok-len.len = sym c.told_length.ensures ∙ c.in_ok-len.was in
    let short : length c.args.bytes.now < c.in_ok-len.len = let s = c.in_default.ensures.lookup.0 in grind (arith, common_steps) in
    short_table _ _ c.if-bytes-lt-HEADER_BYTES.false told short

pub table_in-requires : goal.table_in-requires
table_in-requires c =
    let told : told_length c.args.bytes.now ≡ Ok c.in_ok-len.len = sym c.told_length.ensures ∙ c.in_ok-len.was in
    let got = c.in-Some.ensures.lookup.0 in
    let front = front_is c.args.bytes.now c.in-Some.front.now c.in_ok-len.len got.2 in
    subst (λ (v : List ℕ). told_length v ≡ Ok (length v)) (sym front) (front_told _ _ told got.1)

pub returns-in_err-table-clause-only : goal.returns-in_err-table-clause-only
returns-in_err-table-clause-only c = λ front rest t h e.
    let told : told_length c.args.bytes.now ≡ Ok c.in_ok-len.len = sym c.told_length.ensures ∙ c.in_ok-len.was in
    let got = c.in-Some.ensures.lookup.0 in
    let is = front_is c.args.bytes.now c.in-Some.front.now c.in_ok-len.len got.2 in
    let f = c.in_err-table.field-0.0 in
    let fault : FaultIs f (table_decision (take c.in_ok-len.len c.args.bytes.now)) = subst (λ (v : List ℕ). FaultIs f (table_decision v)) is c.in_err-table.ensures.table in
    match_from (λ x. (x.0 ≡ t) × (x.1 ≡ length front)) (λ f. f ≡ NoMemory) _ _ c.from_residual-in_err-table.ensures.1 (only_memory f c.args.bytes.now (front_fault _ _ f told got.1 fault) front rest t h e)

pub returns-in_err-table-clause-exact : goal.returns-in_err-table-clause-exact
returns-in_err-table-clause-exact c =
    let told : told_length c.args.bytes.now ≡ Ok c.in_ok-len.len = sym c.told_length.ensures ∙ c.in_ok-len.was in
    let got = c.in-Some.ensures.lookup.0 in
    let is = front_is c.args.bytes.now c.in-Some.front.now c.in_ok-len.len got.2 in
    let f = c.in_err-table.field-0.0 in
    let fault : FaultIs f (table_decision (take c.in_ok-len.len c.args.bytes.now)) = subst (λ (v : List ℕ). FaultIs f (table_decision v)) is c.in_err-table.ensures.table in
    match_from (λ x. decision true c.args.bytes.now ≡ Right) (λ f. FaultIs f (decision true c.args.bytes.now)) _ _ c.from_residual-in_err-table.ensures.1 (front_fault _ _ f told got.1 fault)

pub returns-in_err-table-clause-in_memory : goal.returns-in_err-table-clause-in_memory
returns-in_err-table-clause-in_memory c = λ e.
    let told : told_length c.args.bytes.now ≡ Ok c.in_ok-len.len = sym c.told_length.ensures ∙ c.in_ok-len.was in
    let got = c.in-Some.ensures.lookup.0 in
    let is = front_is c.args.bytes.now c.in-Some.front.now c.in_ok-len.len got.2 in
    let f = c.in_err-table.field-0.0 in
    let fault : FaultIs f (table_decision (take c.in_ok-len.len c.args.bytes.now)) = subst (λ (v : List ℕ). FaultIs f (table_decision v)) is c.in_err-table.ensures.table in
    err_not _ ReadFault (err_from (λ f. f ≢ ReadFault) _ _ c.from_residual-in_err-table.ensures.1 (memory_only f c.args.bytes.now (front_fault _ _ f told got.1 fault))) e

pub returns-clause-only : goal.returns-clause-only
returns-clause-only c = λ front rest t h e.
    let told : told_length c.args.bytes.now ≡ Ok c.in_ok-len.len = sym c.told_length.ensures ∙ c.in_ok-len.was in
    let got = c.in-Some.ensures.lookup.0 in
    let is = front_is c.args.bytes.now c.in-Some.front.now c.in_ok-len.len got.2 in
    let spelled = subst (λ (v : List ℕ). TableBytes v c.in_ok-table.table) is c.in_ok-table.ensures.table.0 in
    front_only c.in_ok-len.len c.args.bytes.now c.in_ok-table.table told got.1 spelled front rest t h e

pub returns-clause-exact : goal.returns-clause-exact
returns-clause-exact c =
    let told : told_length c.args.bytes.now ≡ Ok c.in_ok-len.len = sym c.told_length.ensures ∙ c.in_ok-len.was in
    let got = c.in-Some.ensures.lookup.0 in
    let is = front_is c.args.bytes.now c.in-Some.front.now c.in_ok-len.len got.2 in
    front_decided _ _ told got.1 ∙ ap table_decision (sym is) ∙ c.in_ok-table.ensures.table.1
