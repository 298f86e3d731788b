-- Statements and functions that are put part by part.
use Rattle.std.proofs.Common.{◌≡◌, ℕ, List, [], ◌++◌, codes, map, sym, ap, ◌∙◌, append_assoc}
use Rattle.p3l_ast.specs.declared.position.Spot.{Spot}
use Rattle.p3l_ast.specs.Tree as tree
use Rattle.p3l_ast.specs.Tree.{Phrase, Phrases, Statements, if_, if_else, while_, for_, read}
use Rattle.p3l_body.specs.declared.var.Var.{Var}
use Rattle.p3l_body.specs.Seq.{SeqTree}
use Rattle.p3l_c.specs.Translate.{next_all, spots, sizes_at}
use Rattle.p3l_c.specs.Condition.{take_entries, zero_entry, vars_shapes, function_of}
use Rattle.p3l_c_print.specs.declared.value.Value.{Value}
use Rattle.p3l_c_print.specs.declared.value.Block.{Block}
use Rattle.p3l_c_print.specs.Name.{Names, names_of, shapes_of}
use Rattle.p3l_c_print.specs.Line.{set_line, deeper, choice_lines, loop_lines}
use Rattle.p3l_c_print.specs.Text.{element_text}
use Rattle.p3l_c_print.specs.Value.{value_of, block_of, front_text, index_text, assign_text, round_text, code_text, signed_of, test_of}
use Rattle.p3l_c_print.specs.Function.{entries_text, temps_text, outs_text, opening_text, turns_text, body_text}
use Rattle.p3l_c_print.proofs.Joined.{then}
use Rattle.p3l_c_print.proofs.Lines.{assign_is, code_if, code_if_else, code_while, code_for}
use Rattle.p3l_c_print.proofs.Functions.{entries_join, body_is}

pub assign_put : (names : Names) (margin : List ℕ) (x : Spot) (is : Phrases) (e : Phrase) (old one two new place text : List ℕ) (n : ℕ) (v : Value) → n ≡ next_all 0 is
    → one ≡ old ++ index_text names margin 0 (sizes_at (shapes_of names) x.name) is → two ≡ one ++ front_text names margin n e → v ≡ value_of names n e
    → place ≡ element_text names x.name (spots 0 is) → text ≡ signed_of v → new ≡ two ++ set_line margin place text
    → new ≡ old ++ assign_text names margin x.name is e
unfolding front_text index_text
assign_put names margin x is e old one two new place text n v at p q is_v is_place is_text r =
    let front = front_text names margin (next_all 0 is) e in
    let spot = element_text names x.name (spots 0 is) in
    let set = set_line margin spot (signed_of (value_of names (next_all 0 is) e)) in
    let here : two ≡ one ++ front = q ∙ ap (λ k. one ++ front_text names margin k e) at in
    let told : text ≡ signed_of (value_of names (next_all 0 is) e) = is_text ∙ ap signed_of is_v ∙ ap (λ k. signed_of (value_of names k e)) at in
    let last : new ≡ two ++ set = r ∙ ap (λ t. two ++ set_line margin t text) is_place ∙ ap (λ t. two ++ set_line margin spot t) told in
    then old one new (front_text names margin 0 (read x is)) (front ++ set) p (then one two new front set here last)
    ∙ ap (λ t. old ++ t) (sym (assign_is names margin x is e))

pub if_put : (names : Names) (margin : List ℕ) (budget : ℕ) (e : Phrase) (a : Statements) (old middle new test : List ℕ) (v : Value) (block : Block) → middle ≡ old ++ front_text names margin 0 e
    → v ≡ value_of names 0 e → test ≡ test_of v → block ≡ block_of names (deeper margin) budget a → new ≡ middle ++ choice_lines margin test block.text []
    → new ≡ old ++ code_text names margin budget (if_ e a tree.done)
if_put names margin budget e a old middle new test v block p is_v is_test is_block q =
    let front = front_text names margin 0 e in
    let inner = code_text names (deeper margin) budget a in
    let told : test ≡ test_of (value_of names 0 e) = is_test ∙ ap test_of is_v in
    let last : new ≡ middle ++ choice_lines margin (test_of (value_of names 0 e)) inner [] =
    q ∙ ap (λ t. middle ++ choice_lines margin t block.text []) told ∙ ap (λ (b : Block). middle ++ choice_lines margin (test_of (value_of names 0 e)) b.text []) is_block in
    then old middle new front (choice_lines margin (test_of (value_of names 0 e)) inner []) p last
    ∙ ap (λ t. old ++ t) (sym (code_if names margin budget e a))

pub if_else_put : (names : Names) (margin : List ℕ) (budget : ℕ) (e : Phrase) (a b : Statements) (old middle new test : List ℕ) (v : Value) (one two : Block) → middle ≡ old ++ front_text names margin 0 e
    → v ≡ value_of names 0 e → test ≡ test_of v → one ≡ block_of names (deeper margin) budget a → two ≡ block_of names (deeper margin) budget b → new ≡ middle ++ choice_lines margin test one.text two.text
    → new ≡ old ++ code_text names margin budget (if_else e a b tree.done)
if_else_put names margin budget e a b old middle new test v one two p is_v is_test is_one is_two q =
    let front = front_text names margin 0 e in
    let first = code_text names (deeper margin) budget a in
    let second = code_text names (deeper margin) budget b in
    let told : test ≡ test_of (value_of names 0 e) = is_test ∙ ap test_of is_v in
    let last : new ≡ middle ++ choice_lines margin (test_of (value_of names 0 e)) first second =
    q ∙ ap (λ t. middle ++ choice_lines margin t one.text two.text) told
    ∙ ap (λ (x : Block). middle ++ choice_lines margin (test_of (value_of names 0 e)) x.text two.text) is_one
    ∙ ap (λ (x : Block). middle ++ choice_lines margin (test_of (value_of names 0 e)) first x.text) is_two in
    then old middle new front (choice_lines margin (test_of (value_of names 0 e)) first second) p last
    ∙ ap (λ t. old ++ t) (sym (code_if_else names margin budget e a b))

-- a loop of a condition around lines
abbrev pub loop_of : Names → List ℕ → Phrase → List ℕ → List ℕ
loop_of names margin e round = loop_lines margin (front_text names (deeper margin) 0 e) (test_of (value_of names 0 e)) round

pub while_put : (names : Names) (margin inner : List ℕ) (budget : ℕ) (e : Phrase) (a : Statements) (old new none round : List ℕ) → inner ≡ deeper margin → none ≡ []
    → round ≡ none ++ round_text names inner budget a → new ≡ old ++ loop_of names margin e round
    → new ≡ old ++ code_text names margin budget (while_ e a tree.done)
while_put names margin inner budget e a old new none round is_inner is_none p q =
    let turned : round ≡ round_text names (deeper margin) budget a = p ∙ ap (λ t. t ++ round_text names inner budget a) is_none ∙ ap (λ m. round_text names m budget a) is_inner in
    q ∙ ap (λ t. old ++ loop_of names margin e t) turned ∙ ap (λ t. old ++ t) (sym (code_while names margin budget e a))

pub rounds_put : (names : Names) (margin inner : List ℕ) (budget : ℕ) (e : Phrase) (a : Statements) (y : Spot) (js : Phrases) (f : Phrase) (old new none round stepped : List ℕ) → inner ≡ deeper margin → none ≡ []
    → round ≡ none ++ round_text names inner budget a → stepped ≡ round ++ assign_text names inner y.name js f → new ≡ old ++ loop_of names margin e stepped
    → new ≡ old ++ loop_of names margin e (round_text names (deeper margin) budget a ++ assign_text names (deeper margin) y.name js f)
rounds_put names margin inner budget e a y js f old new none round stepped is_inner is_none p r q =
    let turned : round ≡ round_text names (deeper margin) budget a = p ∙ ap (λ t. t ++ round_text names inner budget a) is_none ∙ ap (λ m. round_text names m budget a) is_inner in
    let both : stepped ≡ round_text names (deeper margin) budget a ++ assign_text names (deeper margin) y.name js f =
    r ∙ ap (λ t. t ++ assign_text names inner y.name js f) turned ∙ ap (λ m. round_text names (deeper margin) budget a ++ assign_text names m y.name js f) is_inner in
    q ∙ ap (λ t. old ++ loop_of names margin e t) both

pub for_put : (names : Names) (margin : List ℕ) (budget : ℕ) (x : Spot) (is : Phrases) (e w : Phrase) (y : Spot) (js : Phrases) (f : Phrase) (a b : Statements) (old middle new : List ℕ) → b ≡ a
    → middle ≡ old ++ assign_text names margin x.name is e
    → new ≡ middle ++ loop_of names margin w (round_text names (deeper margin) budget b ++ assign_text names (deeper margin) y.name js f)
    → new ≡ old ++ code_text names margin budget (for_ x is e w y js f a tree.done)
for_put names margin budget x is e w y js f a b old middle new same p q =
    let round = λ (c : Statements). loop_of names margin w (round_text names (deeper margin) budget c ++ assign_text names (deeper margin) y.name js f) in
    then old middle new (assign_text names margin x.name is e) (round a) p (q ∙ ap (λ c. middle ++ round c) same)
    ∙ ap (λ t. old ++ t) (sym (code_for names margin budget x is e w y js f a))

pub entries_put : (names : Names) (ins outs locals : List Var) (old one two new : List ℕ) → one ≡ old ++ entries_text names (take_entries 0 ins) → two ≡ one ++ entries_text names (map zero_entry outs)
    → new ≡ two ++ entries_text names (map zero_entry locals)
    → new ≡ old ++ entries_text names ((take_entries 0 ins ++ map zero_entry outs) ++ map zero_entry locals)
entries_put names ins outs locals old one two new p q r =
    let a = take_entries 0 ins in
    let b = map zero_entry outs in
    let c = map zero_entry locals in
    let first : two ≡ old ++ entries_text names (a ++ b) =
    then old one two (entries_text names a) (entries_text names b) p q ∙ ap (λ t. old ++ t) (sym (entries_join names a b)) in
    then old two new (entries_text names (a ++ b)) (entries_text names c) first r ∙ ap (λ t. old ++ t) (sym (entries_join names (a ++ b) c))

six : (a b c d e f g : List ℕ) → (((((a ++ b) ++ c) ++ d) ++ e) ++ f) ++ g ≡ a ++ (b ++ (c ++ (d ++ (e ++ (f ++ g)))))
six a b c d e f g =
    append_assoc ((((a ++ b) ++ c) ++ d) ++ e) f g
    ∙ append_assoc (((a ++ b) ++ c) ++ d) e (f ++ g)
    ∙ append_assoc ((a ++ b) ++ c) d (e ++ (f ++ g))
    ∙ append_assoc (a ++ b) c (d ++ (e ++ (f ++ g)))
    ∙ append_assoc a b (c ++ (d ++ (e ++ (f ++ g))))

pub body_put : (seq : SeqTree) (names : Names) (code : Block) (none head entries temps turns lines outs whole : List ℕ) → names ≡ names_of seq → code ≡ block_of names (codes "    ") seq.budget seq.body
    → none ≡ [] → head ≡ none ++ opening_text seq.home → entries ≡ head ++ entries_text names (function_of seq).entries → temps ≡ entries ++ temps_text code.temps → turns ≡ temps ++ turns_text
    → lines ≡ turns ++ code.text → outs ≡ lines ++ outs_text names 0 (vars_shapes seq.outs) → whole ≡ outs ++ codes "    return 0;\n}\n"
    → whole ≡ body_text seq
body_put seq names code none head entries temps turns lines outs whole is_names is_code is_none p q r s t u v =
    let same : code ≡ block_of (names_of seq) (codes "    ") seq.budget seq.body = is_code ∙ ap (λ n. block_of n (codes "    ") seq.budget seq.body) is_names in
    let end = codes "    return 0;\n}\n" in
    let one = opening_text seq.home in
    let two = λ (n : Names). entries_text n (function_of seq).entries in
    let last = λ (n : Names). outs_text n 0 (vars_shapes seq.outs) in
    let all = λ (n : Names) (b : Block). one ++ (two n ++ (temps_text b.temps ++ (turns_text ++ (b.text ++ (last n ++ end))))) in
    let a : head ≡ one = p ∙ ap (λ x. x ++ one) is_none in
    let b : entries ≡ one ++ two names = q ∙ ap (λ x. x ++ two names) a in
    let c : temps ≡ (one ++ two names) ++ temps_text code.temps = r ∙ ap (λ x. x ++ temps_text code.temps) b in
    let d : turns ≡ ((one ++ two names) ++ temps_text code.temps) ++ turns_text = s ∙ ap (λ x. x ++ turns_text) c in
    let e : lines ≡ (((one ++ two names) ++ temps_text code.temps) ++ turns_text) ++ code.text = t ∙ ap (λ x. x ++ code.text) d in
    let f : outs ≡ ((((one ++ two names) ++ temps_text code.temps) ++ turns_text) ++ code.text) ++ last names = u ∙ ap (λ x. x ++ last names) e in
    v ∙ ap (λ x. x ++ end) f ∙ six one (two names) (temps_text code.temps) turns_text code.text (last names) end
    ∙ ap (λ n. all n code) is_names ∙ ap (all (names_of seq)) same
    ∙ sym (body_is seq)
