-- A text is that of a table or has a fault.
use Rattle.std.proofs.Common.{◌≡◌, ◌≢◌, ◌⊎◌, inl, inr, ℕ, zero, suc, ◌+◌, ◌<◌, ◌≤◌, eqb, Bool, true, false, List, [], ◌∷◌, ◌++◌, length, get_or, slice_index, drop, refl, sym, ap, ◌∙◌, subst, arith}
use Rattle.std.specs.Prelude.{Option, Some, None, Result, Ok, Err}
use Rattle.std.proofs.lemmas.Bool.Decides.{nat_tests}
use Rattle.pcc_bytes.specs.Bytes.{number_at}
use Rattle.pcc_bytes.specs.Fields.{last_in, lines_of, split_at}
use Rattle.pcct_table.specs.declared.build.BuildError.{BuildError}
use Rattle.pcct_table.specs.declared.build.BuildError.TheVariants as error
use Rattle.pcct_table.specs.declared.build.BuildKind.{BuildKind}
use Rattle.pcct_table.specs.declared.build.BuildKind.TheVariants as kind
use Rattle.pcct_table.specs.declared.extended.Type34.{Type34}
use Rattle.pcct_table.specs.declared.subspace.Subspace.{Subspace}
use Rattle.pcct_table.specs.declared.other.Other.{Other}
use Rattle.pcct_table.specs.declared.subspace.Subspace.TheVariants as Sub
use Rattle.pcct_table.specs.declared.subspace.Subspace.TheVariants.{Generic, HwReduced1, HwReduced2, Initiator, Responder, HwRegister}
use Rattle.pcct_table.specs.declared.table.Table.{Table}
use Rattle.pcct_table.specs.Rows.{size_of_kind}
use Rattle.pcct_table.specs.Values.{address_at, bytes_at}
use Rattle.pcct_table.specs.Subspaces.{SubspaceBytes}
use Rattle.pcct_table.specs.ShowText.{HasText, header_line, show_text}
use Rattle.pcct_table.specs.ShowFaults.{HasFault, HasTable, TextWrong}
use Rattle.pcct_table.specs.ShowReading.{Nothing, ReadsStructure, TellsStructures, TellsTable, TellsText, Wrong, read_header, read_line, shown_bytes}
use Rattle.pcct_table.proofs.Building.{all_read, Building, building_many, building_more, building_start, building_unended, building_wrong}
use Rattle.pcct_table.proofs.Built.{behind_header, header_at, header_right, is_first, is_found, is_only, is_wrong, table_cut, text_stops}
use Rattle.pcct_table.proofs.ShowHeader.{header_is, header_read}
use Rattle.pcct_table.proofs.Laws.{kept_is}
use Rattle.pcct_table.proofs.ShowLine.{line_size, line_told}

-- ---- structures

-- what the bytes of an extended structure say
abbrev extended_at : List ℕ → Type34
extended_at b = record {
  interrupt = number_at 4 2 b;
  interrupt_flags = number_at 1 6 b;
  reserved = bytes_at 1 7 b;
  base = number_at 8 8 b;
  length = number_at 4 16 b;
  doorbell = address_at 20 b;
  preserve = number_at 8 32 b;
  write = number_at 8 40 b;
  latency = number_at 4 48 b;
  rate = number_at 4 52 b;
  turnaround = number_at 4 56 b;
  ack = address_at 60 b;
  ack_preserve = number_at 8 72 b;
  ack_set = number_at 8 80 b;
  reserved2 = bytes_at 8 88 b;
  check = address_at 96 b;
  check_mask = number_at 8 108 b;
  update = address_at 116 b;
  update_preserve = number_at 8 128 b;
  update_set = number_at 8 136 b;
  error = address_at 144 b;
  error_mask = number_at 8 156 b;
}

-- by the type
of_kind : (b : List ℕ) (k : ℕ) → slice_index b 0 ≡ k → size_of_kind k (length b) ≡ Some (length b) → slice_index b 1 ≡ length b → (s : Subspace) × SubspaceBytes b s
of_kind b zero e h t = (
  Generic (record {
    reserved = bytes_at 6 2 b;
    base = number_at 8 8 b;
    length = number_at 8 16 b;
    doorbell = address_at 24 b;
    preserve = number_at 8 36 b;
    write = number_at 8 44 b;
    latency = number_at 4 52 b;
    rate = number_at 4 56 b;
    turnaround = number_at 2 60 b;
  }),
  record { unknown = tt; size = h; kind = e; told = t; values = refl },
)
of_kind b (suc zero) e h t = (
  HwReduced1 (record {
    interrupt = number_at 4 2 b;
    interrupt_flags = number_at 1 6 b;
    reserved = bytes_at 1 7 b;
    base = number_at 8 8 b;
    length = number_at 8 16 b;
    doorbell = address_at 24 b;
    preserve = number_at 8 36 b;
    write = number_at 8 44 b;
    latency = number_at 4 52 b;
    rate = number_at 4 56 b;
    turnaround = number_at 2 60 b;
  }),
  record { unknown = tt; size = h; kind = e; told = t; values = refl },
)
of_kind b (suc (suc zero)) e h t = (
  HwReduced2 (record {
    interrupt = number_at 4 2 b;
    interrupt_flags = number_at 1 6 b;
    reserved = bytes_at 1 7 b;
    base = number_at 8 8 b;
    length = number_at 8 16 b;
    doorbell = address_at 24 b;
    preserve = number_at 8 36 b;
    write = number_at 8 44 b;
    latency = number_at 4 52 b;
    rate = number_at 4 56 b;
    turnaround = number_at 2 60 b;
    ack = address_at 62 b;
    ack_preserve = number_at 8 74 b;
    ack_write = number_at 8 82 b;
  }),
  record { unknown = tt; size = h; kind = e; told = t; values = refl },
)
of_kind b (suc (suc (suc zero))) e h t = (Initiator (extended_at b), record { unknown = tt; size = h; kind = e; told = t; values = refl })
of_kind b (suc (suc (suc (suc zero)))) e h t = (Responder (extended_at b), record { unknown = tt; size = h; kind = e; told = t; values = refl })
of_kind b (suc (suc (suc (suc (suc zero))))) e h t = (
  HwRegister (record {
    version = number_at 2 2 b;
    base = number_at 8 4 b;
    length = number_at 8 12 b;
    doorbell = address_at 20 b;
    preserve = number_at 8 32 b;
    write = number_at 8 40 b;
    check = address_at 48 b;
    check_mask = number_at 8 60 b;
    error = address_at 68 b;
    error_mask = number_at 8 80 b;
    latency = number_at 4 88 b;
    turnaround = number_at 4 92 b;
  }),
  record { unknown = tt; size = h; kind = e; told = t; values = refl },
)
of_kind b (suc (suc (suc (suc (suc (suc k)))))) e h t =
    let o : Other = record { kind = suc (suc (suc (suc (suc (suc k))))); bytes = drop 2 b } in
    (Sub.Other o, kept_is b o (omega arith) h e t refl)

-- bytes of a type, as many as it has, spell a structure
pub some_structure : (b : List ℕ) → size_of_kind (slice_index b 0) (length b) ≡ Some (length b) → slice_index b 1 ≡ length b → (s : Subspace) × SubspaceBytes b s
some_structure b h t = of_kind b (slice_index b 0) refl h t

-- ---- the lines behind a header's

-- what is told of lines, and it isn't want of memory
record IsTold (lines : List (List ℕ)) (last : List ℕ) : Type 0 where
  answer : Result (List Subspace) BuildError
  tells : TellsStructures answer lines last
  known : answer ≡ Err error.NoMemory → ⊥

fault_known : {X : Type 0} (n : ℕ) (k : BuildKind) (r : Result X BuildError) → r ≡ Err (error.Fault n k) → r ≡ Err error.NoMemory → ⊥
fault_known n k r e f = cc

ok_known : {X : Type 0} (x : X) (r : Result X BuildError) → r ≡ Ok x → r ≡ Err error.NoMemory → ⊥
ok_known x r e f = cc

walk_end : (lines : List (List ℕ)) (last : List ℕ) (place : ℕ) (ss : List Subspace) → length lines ≤ place → Building lines place ss → IsTold lines last
walk_end lines [] place ss le b = record { answer = Ok ss; tells = (all_read lines place ss le b, b.right, refl); known = ok_known ss (Ok ss) refl }
walk_end lines (x ∷ xs) place ss le b = record {
  answer = Err (error.Fault (length lines + 2) kind.Text);
  tells = building_unended lines (x ∷ xs) place (length lines + 2) ss le (λ e. absurd (omega arith)) refl b;
  known = fault_known (length lines + 2) kind.Text (Err (error.Fault (length lines + 2) kind.Text)) refl;
}

walk_room : (lines : List (List ℕ)) (last : List ℕ) (place : ℕ) (ss : List Subspace) (s : Subspace) (full : Bool) → eqb place 256 ≡ full → place < length lines
    → ReadsStructure (read_line place (split_at 32 (get_or lines place []))) (Some s) → Building lines place ss
    → ((next : List Subspace) → Building lines (place + 1) next → IsTold lines last) → IsTold lines last
walk_room lines last place ss s true e lt h b go =
    let full : place ≡ 256 = grind (arith, nat_tests) in
    record {
      answer = Err (error.Fault (place + 2) kind.Many);
      tells = building_many lines last place (place + 2) ss s lt h full refl b;
      known = fault_known (place + 2) kind.Many (Err (error.Fault (place + 2) kind.Many)) refl;
    }
walk_room lines last place ss s false e lt h b go =
    let room : place ≢ 256 = λ f. grind (arith, nat_tests) in
    go (ss ++ s ∷ []) (building_more lines place ss (ss ++ s ∷ []) s lt h room refl b)

walk_line : (lines : List (List ℕ)) (last : List ℕ) (place : ℕ) (ss : List Subspace) (o : Option (List ℕ))
    → read_line place (split_at 32 (get_or lines place [])) ≡ o
    → place < length lines → Building lines place ss → ((next : List Subspace) → Building lines (place + 1) next → IsTold lines last) → IsTold lines last
walk_line lines last place ss None e lt b go =
    let R : Option (List ℕ) → Type 0 = λ o. ReadsStructure o None in
    record {
      answer = Err (error.Fault (place + 2) kind.Text);
      tells = building_wrong lines last place (place + 2) ss lt (subst R (sym e) tt) refl b;
      known = fault_known (place + 2) kind.Text (Err (error.Fault (place + 2) kind.Text)) refl;
    }
walk_line lines last place ss (Some bytes) e lt b go =
    let line = get_or lines place [] in
    let s = some_structure bytes (line_size place line bytes e) (line_told place line bytes e) in
    let R : Option (List ℕ) → Type 0 = λ o. ReadsStructure o (Some s.0) in
    walk_room lines last place ss s.0 (eqb place 256) refl lt (subst R (sym e) s.1) b go

walk : (lines : List (List ℕ)) (last : List ℕ) (more place : ℕ) (ss : List Subspace) → place + more ≡ length lines → Building lines place ss → IsTold lines last
walk lines last zero place ss e b = walk_end lines last place ss (omega arith) b
walk lines last (suc more) place ss e b =
    walk_line lines last place ss (read_line place (split_at 32 (get_or lines place []))) refl (omega arith) b
    (λ next h. walk lines last more (place + 1) next (omega arith) h)

-- ---- all lines

record IsAnswered (lines : List (List ℕ)) (last : List ℕ) : Type 0 where
  answer : Result Table BuildError
  tells : TellsTable answer lines last
  known : answer ≡ Err error.NoMemory → ⊥

no_lines_told : (last : List ℕ) → IsAnswered [] last
no_lines_told last = record {
  answer = Err (error.Fault 1 kind.Text);
  tells = record { before = []; more = []; cut = refl; right = tt; few = omega arith; stops = Nothing last refl; number = refl };
  known = fault_known 1 kind.Text (Err (error.Fault 1 kind.Text)) refl;
}

no_header_told : (line : List ℕ) (lines : List (List ℕ)) (last : List ℕ) → read_header (split_at 32 line) ≡ None → IsAnswered (line ∷ lines) last
no_header_told line lines last e = record {
  answer = Err (error.Fault 1 kind.Text);
  tells = record {
    before = [];
    more = line ∷ lines;
    cut = refl;
    right = tt;
    few = omega arith;
    stops = Wrong line lines last (λ r. let some = header_read line r.0 r.1 r.2 in let both : Some (shown_bytes r.0) ≡ None = sym some ∙ e in cc);
    number = refl;
  };
  known = fault_known 1 kind.Text (Err (error.Fault 1 kind.Text)) refl;
}

-- the table of a header's line and structures
header_told : (line b : List ℕ) (lines : List (List ℕ)) (last : List ℕ) (r : Result (List Subspace) BuildError) → read_header (split_at 32 line) ≡ Some b
    → TellsStructures r lines last → (r ≡ Err error.NoMemory → ⊥) → IsAnswered (line ∷ lines) last
header_told line b lines last (Ok ss) e h known =
    let t : Table = record (header_at b) { subspaces = ss } in
    record {
      answer = Ok t;
      tells = (header_right line b t e refl h.1.spelled h.1.few, ap (λ (l : List ℕ). l ∷ lines) (header_is line b t e refl) ∙ ap (λ (ls : List (List ℕ)). header_line t ∷ ls) h.0, h.2);
      known = ok_known t (Ok t) refl;
    }
header_told line b lines last (Err error.NoMemory) e h known = absurd (known refl)
header_told line b lines last (Err (error.Fault n k)) e h known = record {
  answer = Err (error.Fault n k);
  tells = behind_header line b lines last n k e h;
  known = fault_known n k (Err (error.Fault n k)) refl;
}

first_told : (line : List ℕ) (lines : List (List ℕ)) (last : List ℕ) (o : Option (List ℕ)) → read_header (split_at 32 line) ≡ o → IsAnswered (line ∷ lines) last
first_told line lines last None e = no_header_told line lines last e
first_told line lines last (Some b) e =
    let w = walk lines last (length lines) 0 [] (omega arith) (building_start lines [] refl) in
    header_told line b lines last w.answer e w.tells w.known

lines_told : (lines : List (List ℕ)) (last : List ℕ) → IsAnswered lines last
lines_told [] last = no_lines_told last
lines_told (line ∷ lines) last = first_told line lines last (read_header (split_at 32 line)) refl

-- ---- a text

text_case : (text : List ℕ) (r : Result Table BuildError) → TellsText r text → (r ≡ Err error.NoMemory → ⊥) → HasTable text ⊎ HasFault text
text_case text (Ok t) h known = let f = is_found text (Ok t) h in inl (record { table = t; right = f.0; spelled = f.1 })
text_case text (Err error.NoMemory) h known = absurd (known refl)
text_case text (Err (error.Fault n k)) h known = inr (record { line = n; kind = k; wrong = is_wrong text (Err (error.Fault n k)) h })

pub text_some : (text : List ℕ) → HasTable text ⊎ HasFault text
text_some text =
    let a = lines_told (lines_of text) (last_in text) in
    text_case text a.answer a.tells a.known

-- a table is what is told of its text
table_told : (t : Table) (text : List ℕ) → HasText t → text ≡ show_text t → TellsText (Ok t) text
table_told t text h e = let c = table_cut t text h e in (h, c.front_is, c.last_is)

pub text_not_both : (text : List ℕ) → HasTable text → HasFault text → ⊥
text_not_both text t f = is_first text (Ok t.table) f.line f.kind (table_told t.table text t.right t.spelled) f.wrong

pub text_one_fault : (text : List ℕ) (line other : ℕ) (k another : BuildKind) → TextWrong text line k → TextWrong text other another
    → (line ≡ other) × (k ≡ another)
text_one_fault text line other k another a b = is_first text (Err (error.Fault line k)) other another (text_stops text line k a) b

pub text_one_table : (t u : Table) → HasText t → HasText u → show_text t ≡ show_text u → t ≡ u
text_one_table t u h k e = is_only (show_text t) (Ok t) u (table_told t (show_text t) h refl) k e
