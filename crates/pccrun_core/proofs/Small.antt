-- The packages of a script are shorter than its text.
use Rattle.std.proofs.Common.{◌≡◌, ℕ, suc, ◌<◌, ◌≤◌, ◌^◌, List, [], ◌∷◌, ◌++◌, length, map, refl, ap, arith}
use Rattle.std.specs.List.{AllByRecursion, flat_map}
use Rattle.std.proofs.lemmas.List.{length-append}
use Rattle.hex.specs.Hex.{lower_digits}
use Rattle.hex.proofs.HexLemmas.{length-encode_with}
use Rattle.pcc_bytes.specs.Fields.{hex_text, line_text}
use Rattle.pcc_script.specs.Text.{Statement, cap_statement, clock_statement, cpu_statement, action_statement, line_of, open_statement, pick_statements, script_text, statements_text, table_statement}
use Rattle.pcc_script.specs.declared.scenario.Scenario.{Scenario}
use Rattle.pccrun_core.specs.Answers.{input_limit}
use Rattle.pccrun_core.specs.Serving.{IsSpelled}

abbrev lines_text : List Statement → List ℕ
lines_text statements = flat_map line_text (map line_of statements)

-- the text of later lines is a part
later_part : (front later : List Statement) → length (lines_text later) ≤ length (lines_text (front ++ later))
later_part [] later = omega arith
later_part (s ∷ front) later =
    let more = later_part front later in
    let len = length-append (line_text (line_of s)) (lines_text (front ++ later)) in
    omega (arith, more, len)

-- bytes are shorter than their text, and than the line of a package
hex_long : (bytes : List ℕ) → length bytes ≤ length (hex_text bytes)
hex_long [] = omega arith
hex_long (b ∷ bs) = let len = length-encode_with lower_digits (b ∷ bs) in omega (arith, len)

line_long : (bytes : List ℕ) → length bytes ≤ length (line_text (line_of (cpu_statement bytes)))
line_long bytes =
    let long = hex_long bytes in
    let word : length (line_of (cpu_statement bytes)) ≡ suc (suc (suc (suc (length (hex_text bytes))))) = refl in
    let len = length-append (line_of (cpu_statement bytes)) (10 ∷ []) in
    omega (arith, long, word, len)

short_packages : (n : ℕ) (cpus : List (List ℕ)) (later : List Statement) → length (lines_text (map cpu_statement cpus ++ later)) ≤ n → AllByRecursion (λ bytes. length bytes ≤ n) cpus
short_packages n [] later few = tt
short_packages n (bytes ∷ cpus) later few =
    let long = line_long bytes in
    let len = length-append (line_text (line_of (cpu_statement bytes))) (lines_text (map cpu_statement cpus ++ later)) in
    (omega (arith, long, len, few), short_packages n cpus later (omega (arith, len, few)))

under : (n : ℕ) (cpus : List (List ℕ)) → n < 2 ^ 32 → AllByRecursion (λ bytes. length bytes ≤ n) cpus → AllByRecursion (λ bytes. length bytes < 2 ^ 32) cpus
under n [] few h = tt
under n (bytes ∷ cpus) few h = let short = h.0 in (omega (arith, few, short), under n cpus few h.1)

pub small_packages : (text : List ℕ) (s : Scenario) → IsSpelled text s → length text ≤ input_limit → AllByRecursion (λ bytes. length bytes < 2 ^ 32) s.cpus
unfolding script_text statements_text
small_packages text s h few =
    let later : List Statement = map cap_statement s.caps ++ (map action_statement s.actions ++ pick_statements s.picks) in
    let front : List Statement = table_statement s.table ∷ clock_statement s.start s.step ∷ map open_statement s.opens in
    let part = later_part front (map cpu_statement s.cpus ++ later) in
    let is : length text ≡ length (lines_text (front ++ (map cpu_statement s.cpus ++ later))) = ap length h.spelled in
    under input_limit s.cpus (omega arith) (short_packages input_limit s.cpus later (omega (arith, part, is, few)))
