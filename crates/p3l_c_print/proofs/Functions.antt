-- The text of a function, by what it is made of.
use Rattle.std.proofs.Common.{◌≡◌, ℕ, ◌+◌, ◌<◌, ◌≤◌, List, [], ◌∷◌, ◌++◌, drop, get_or, length, codes, refl, sym, ap, ◌∙◌, append_assoc, append-nil, add-one}
use Rattle.std.specs.Prelude.{map}
use Rattle.std.proofs.lemmas.List.{drop_more, drop_all}
use Rattle.p3l_types.specs.Shape.{product}
use Rattle.p3l_body.specs.declared.var.Var.{Var}
use Rattle.p3l_body.specs.Seq.{SeqTree}
use Rattle.p3l_c.specs.Temps.{temps_of}
use Rattle.p3l_c.specs.Condition.{Entry, take_entries, zero_entry, vars_shapes, function_of}
use Rattle.p3l_c_print.specs.Name.{Names, name_text, names_of}
use Rattle.p3l_c_print.specs.Text.{lines_text}
use Rattle.p3l_c_print.specs.Value.{code_text}
use Rattle.p3l_c_print.specs.Function.{size_text, sizes_text, temp_line, taken_text, zero_text, entry_text, entries_text, temps_text, out_text, outs_text, opening_text, turns_text, function_text, body_text}
use Rattle.p3l_c_print.proofs.Shapes.{lines_named}

-- a text is put, and then those that are left
pub one_more : (old new one left rest whole : List ℕ) → new ≡ old ++ one → left ≡ one ++ rest → old ++ left ≡ whole → new ++ rest ≡ whole
one_more old new one left rest whole p q h = ap (λ t. t ++ rest) p ∙ append_assoc old one rest ∙ ap (λ t. old ++ t) (sym q) ∙ h

pub none_more : (old left whole : List ℕ) → left ≡ [] → old ++ left ≡ whole → old ≡ whole
none_more old left whole q h = sym (append-nil old) ∙ ap (λ t. old ++ t) (sym q) ∙ h

-- sizes in brackets

pub size_left : (sizes : List ℕ) (i size d : ℕ) → i < length sizes → size ≡ get_or sizes i d → sizes_text (drop i sizes) ≡ size_text size ++ sizes_text (drop (i + 1) sizes)
unfolding sizes_text
size_left sizes i size d inside is = ap sizes_text (drop_more sizes i d inside ∙ ap (λ y. y ∷ drop (i + 1) sizes) (sym is))

pub no_size_left : (sizes : List ℕ) (i : ℕ) → length sizes ≤ i → sizes_text (drop i sizes) ≡ []
unfolding sizes_text
no_size_left sizes i past = ap sizes_text (drop_all i sizes past)

-- variables that take their words from `in`

pub taken_left : (names : Names) (vars : List Var) (i from : ℕ) (var : Var) → i < length vars → var ≡ get_or vars i var
    → entries_text names (take_entries from (drop i vars))
    ≡ taken_text (name_text names var.name) var.shape.sizes from ++ entries_text names (take_entries (from + product var.shape.sizes) (drop (i + 1) vars))
unfolding entries_text
taken_left names vars i from var inside is =
    ap (λ xs. entries_text names (take_entries from xs)) (drop_more vars i var inside ∙ ap (λ y. y ∷ drop (i + 1) vars) (sym is))

pub none_taken : (names : Names) (vars : List Var) (i from : ℕ) → length vars ≤ i → entries_text names (take_entries from (drop i vars)) ≡ []
unfolding entries_text
none_taken names vars i from past = ap (λ xs. entries_text names (take_entries from xs)) (drop_all i vars past)

-- variables whose words are 0

pub zero_left : (names : Names) (vars : List Var) (i : ℕ) (var : Var) → i < length vars → var ≡ get_or vars i var
    → entries_text names (map zero_entry (drop i vars)) ≡ zero_text (name_text names var.name) var.shape.sizes ++ entries_text names (map zero_entry (drop (i + 1) vars))
unfolding entries_text
zero_left names vars i var inside is =
    ap (λ xs. entries_text names (map zero_entry xs)) (drop_more vars i var inside ∙ ap (λ y. y ∷ drop (i + 1) vars) (sym is))

pub none_zero : (names : Names) (vars : List Var) (i : ℕ) → length vars ≤ i → entries_text names (map zero_entry (drop i vars)) ≡ []
unfolding entries_text
none_zero names vars i past = ap (λ xs. entries_text names (map zero_entry xs)) (drop_all i vars past)

-- variables that are copied to `out`

pub out_left : (names : Names) (vars : List Var) (i from : ℕ) (var : Var) → i < length vars → var ≡ get_or vars i var
    → outs_text names from (vars_shapes (drop i vars))
    ≡ out_text (name_text names var.name) from ++ outs_text names (from + product var.shape.sizes) (vars_shapes (drop (i + 1) vars))
unfolding outs_text
out_left names vars i from var inside is =
    ap (λ xs. outs_text names from (vars_shapes xs)) (drop_more vars i var inside ∙ ap (λ y. y ∷ drop (i + 1) vars) (sym is))

pub no_out_left : (names : Names) (vars : List Var) (i from : ℕ) → length vars ≤ i → outs_text names from (vars_shapes (drop i vars)) ≡ []
unfolding outs_text
no_out_left names vars i from past = ap (λ xs. outs_text names from (vars_shapes xs)) (drop_all i vars past)

-- temps

pub no_temps : temps_text 0 ≡ []
unfolding temps_text
no_temps = refl

pub more_temps : (n : ℕ) → temps_text (n + 1) ≡ temps_text n ++ temp_line n
unfolding temps_text
more_temps n = ap temps_text (add-one n)

-- a temp is put after those before it
pub temp_then : (old middle new : List ℕ) (n : ℕ) → middle ≡ old ++ temps_text n → new ≡ middle ++ temp_line n → new ≡ old ++ temps_text (n + 1)
temp_then old middle new n p q = q ∙ ap (λ t. t ++ temp_line n) p ∙ append_assoc old (temps_text n) (temp_line n) ∙ ap (λ t. old ++ t) (sym (more_temps n))

-- the declarations of the ins, the outs and the other variables

pub entries_join : (names : Names) (a b : List Entry) → entries_text names (a ++ b) ≡ entries_text names a ++ entries_text names b
unfolding entries_text
entries_join names [] b = refl
entries_join names (entry ∷ a) b = let h = entries_join names a b in rw h (sym (append_assoc (entry_text names entry) (entries_text names a) (entries_text names b)))

-- THE WHOLE TEXT
pub body_is : (seq : SeqTree) → body_text seq
    ≡ opening_text seq.home ++ (entries_text (names_of seq) (function_of seq).entries ++ (temps_text (temps_of seq.body) ++ (turns_text
    ++ (code_text (names_of seq) (codes "    ") seq.budget seq.body ++ (outs_text (names_of seq) 0 (vars_shapes seq.outs) ++ codes "    return 0;\n}\n")))))
unfolding function_text code_text
body_is seq =
    ap (λ code. opening_text seq.home ++ (entries_text (names_of seq) (function_of seq).entries ++ (temps_text (temps_of seq.body) ++ (turns_text
    ++ (lines_text (names_of seq) (codes "    ") code ++ (outs_text (names_of seq) 0 (vars_shapes seq.outs) ++ codes "    return 0;\n}\n"))))))
    (sym (lines_named seq))
