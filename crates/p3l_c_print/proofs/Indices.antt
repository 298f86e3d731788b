-- The indices of an element, one after the other.
use Rattle.std.proofs.Common.{◌≡◌, ℕ, ◌+◌, ◌<◌, ◌≤◌, List, [], ◌∷◌, ◌++◌, drop, get_or, length, sym, ap, ◌∙◌, append_assoc, append-nil}
use Rattle.std.proofs.lemmas.List.{drop_more, drop_all}
use Rattle.p3l_ast.specs.declared.expression.Expr.{Expr}
use Rattle.p3l_ast.specs.Tree.{Phrase, Phrases, none, more, phrase, phrases}
use Rattle.p3l_c.specs.Translate.{first_size, other_sizes, next_all, spots}
use Rattle.p3l_c_print.specs.declared.value.Value.{Value}
use Rattle.p3l_c_print.specs.declared.value.Spots.{Spots}
use Rattle.p3l_c_print.specs.Name.{Names}
use Rattle.p3l_c_print.specs.Line.{set_line}
use Rattle.p3l_c_print.specs.Text.{temp_text, spot_text, spots_text}
use Rattle.p3l_c_print.specs.Value.{value_of, front_text, index_text, spots_of, signed_of, bound_line}
use Rattle.p3l_c_print.proofs.Fronts.{index_none, index_more}

-- the first of the indices that are left
pub first_left : (es : List Expr) (i : ℕ) (e : Expr) → i < length es → e ≡ get_or es i e → phrases (drop i es) ≡ more (phrase e) (phrases (drop (i + 1) es))
first_left es i e inside is = ap phrases (drop_more es i e inside ∙ ap (λ y. y ∷ drop (i + 1) es) (sym is))

pub none_left : (es : List Expr) (i : ℕ) → length es ≤ i → phrases (drop i es) ≡ none
none_left es i past = ap phrases (drop_all i es past)

-- the lines of an index, and then those of the others
pub lines_step : (names : Names) (margin : List ℕ) (n : ℕ) (sizes : List ℕ) (e : Phrase) (is : Phrases) (old one two : List ℕ) (v : Value) → one ≡ old ++ front_text names margin n e → v ≡ value_of names n e
    → two ≡ one ++ (set_line margin (temp_text v.after) (signed_of v) ++ bound_line names margin v.after (first_size sizes))
    → two ++ index_text names margin (v.after + 1) (other_sizes sizes) is ≡ old ++ index_text names margin n sizes (more e is)
lines_step names margin n sizes e is old one two v p q r =
    let front = front_text names margin n e in
    let set = set_line margin (temp_text v.after) (signed_of v) in
    let bound = bound_line names margin v.after (first_size sizes) in
    let rest = index_text names margin (v.after + 1) (other_sizes sizes) is in
    ap (λ t. t ++ rest) (r ∙ ap (λ t. t ++ (set ++ bound)) p ∙ append_assoc old front (set ++ bound))
    ∙ append_assoc old (front ++ (set ++ bound)) rest
    ∙ ap (λ t. old ++ t) (append_assoc front (set ++ bound) rest ∙ ap (λ t. front ++ t) (append_assoc set bound rest)
    ∙ ap (λ (x : Value). front ++ (set_line margin (temp_text x.after) (signed_of x) ++ (bound_line names margin x.after (first_size sizes) ++ index_text names margin (x.after + 1) (other_sizes sizes) is))) q
    ∙ sym (index_more names margin n sizes e is))

-- the temp of an index in brackets, and then those of the others
pub spots_step : (names : Names) (n : ℕ) (e : Phrase) (is : Phrases) (old new : List ℕ) (v : Value) → v ≡ value_of names n e → new ≡ old ++ spot_text v.after
    → new ++ spots_text (spots (v.after + 1) is) ≡ old ++ spots_text (spots n (more e is))
unfolding spots_text value_of
spots_step names n e is old new v q p =
    ap (λ t. t ++ spots_text (spots (v.after + 1) is)) p ∙ append_assoc old (spot_text v.after) (spots_text (spots (v.after + 1) is))
    ∙ ap (λ (x : Value). old ++ (spot_text x.after ++ spots_text (spots (x.after + 1) is))) q

pub after_step : (names : Names) (n : ℕ) (e : Phrase) (is : Phrases) (v : Value) → v ≡ value_of names n e → next_all (v.after + 1) is ≡ next_all n (more e is)
unfolding value_of
after_step names n e is v q = ap (λ (x : Value). next_all (x.after + 1) is) q

pub lines_end : (names : Names) (margin : List ℕ) (n : ℕ) (sizes old : List ℕ) → old ++ index_text names margin n sizes none ≡ old
lines_end names margin n sizes old = ap (λ t. old ++ t) (index_none names margin n sizes) ∙ append-nil old

pub spots_end : (n : ℕ) (old : List ℕ) → old ++ spots_text (spots n none) ≡ old
unfolding spots_text
spots_end n old = append-nil old

-- past the last index

pub lines_all : (names : Names) (margin : List ℕ) (n : ℕ) (sizes : List ℕ) (es : List Expr) (i : ℕ) (old whole : List ℕ) → length es ≤ i
    → old ++ index_text names margin n sizes (phrases (drop i es)) ≡ whole → old ≡ whole
lines_all names margin n sizes es i old whole past h =
    sym (ap (λ is. old ++ index_text names margin n sizes is) (none_left es i past) ∙ lines_end names margin n sizes old) ∙ h

abbrev held : List ℕ → ℕ → Spots
held text after = record { text = text; after = after }

pub spots_all : (first n : ℕ) (es : List Expr) (i : ℕ) (old text : List ℕ) → length es ≤ i → text ≡ old → old ++ spots_text (spots n (phrases (drop i es))) ≡ spots_text (spots first (phrases es))
    → next_all n (phrases (drop i es)) ≡ next_all first (phrases es) → held text n ≡ spots_of first (phrases es)
spots_all first n es i old text past same h k =
    let all = same ∙ sym (ap (λ is. old ++ spots_text (spots n is)) (none_left es i past) ∙ spots_end n old) ∙ h in
    let after = sym (ap (next_all n) (none_left es i past)) ∙ k in
    ap (λ t. held t n) all ∙ ap (held (spots_text (spots first (phrases es)))) after
