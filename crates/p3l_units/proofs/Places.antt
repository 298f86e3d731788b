-- The places of codes.
use Rattle.std.proofs.Common.{◌≡◌, ℕ, zero, suc, ◌+◌, ◌<◌, ◌≤◌, ⊎_elim, List, [], ◌∷◌, ◌++◌, length, get_or, Some, refl, sym, ap, ◌∙◌, arith, add_assoc}
use Rattle.std.specs.Prelude.{slice_get}
use Rattle.std.proofs.lemmas.Bool.{cases_lt}
use Rattle.p3l_skel.specs.declared.tree.ModuleKind.{ModuleKind}
use Rattle.p3l_skel.specs.declared.tree.ModuleKind.TheVariants as kinds
use Rattle.p3l_skel.specs.declared.tree.ModuleInfo.{ModuleInfo}
use Rattle.p3l_units.specs.Table.{one_if_seq, seqs_before}

one_at_most : (kind : ModuleKind) → one_if_seq kind ≤ 1
one_at_most kinds.Seq = omega arith
one_at_most _ = omega arith

pub few_before : (modules : List ModuleInfo) (m : ℕ) → seqs_before modules m ≤ m
few_before modules zero = omega arith
few_before [] (suc m) = omega arith
few_before (x ∷ modules) (suc m) = omega (arith, one_at_most x.kind, few_before modules m)

pub before_more : (modules : List ModuleInfo) (m : ℕ) (d : ModuleInfo) → m < length modules → seqs_before modules (m + 1) ≡ seqs_before modules m + one_if_seq (get_or modules m d).kind
before_more [] m d inside = absurd (omega arith)
before_more (x ∷ modules) zero d inside =
    let f : 0 + 1 ≡ suc 0 = omega arith in
    let s : one_if_seq x.kind + 0 ≡ 0 + one_if_seq x.kind = omega arith in
    ap (seqs_before (x ∷ modules)) f ∙ s
before_more (x ∷ modules) (suc m) d inside =
    let e = before_more modules m d (omega arith) in
    let f : suc m + 1 ≡ suc (m + 1) = omega arith in
    ap (seqs_before (x ∷ modules)) f ∙ (ap (λ n. one_if_seq x.kind + n) e ∙ sym (add_assoc (one_if_seq x.kind) (seqs_before modules m) (one_if_seq (get_or modules m d).kind)))

get_front : (xs : List ℕ) (x m : ℕ) → m < length xs → slice_get (xs ++ x ∷ []) m ≡ slice_get xs m
get_front [] x m inside = absurd (omega arith)
get_front (y ∷ xs) x zero inside = refl
get_front (y ∷ xs) x (suc m) inside = get_front xs x m (omega arith)

get_last : (xs : List ℕ) (x : ℕ) → slice_get (xs ++ x ∷ []) (length xs) ≡ Some x
get_last [] x = refl
get_last (y ∷ xs) x = get_last xs x

-- one place more
pub placed_more : (f : ℕ → ℕ) (places : List ℕ) (x i m : ℕ) → length places ≡ i → x ≡ f i → ((k : ℕ) → k < i → slice_get places k ≡ Some (f k)) → m < i + 1 → slice_get (places ++ x ∷ []) m ≡ Some (f m)
placed_more f places x i m long is so_far low =
    ⊎_elim
    (λ h. get_front places x m (omega arith) ∙ so_far m h)
    (λ h. let e : m ≡ length places = omega arith in let same : i ≡ m = omega arith in
    ap (slice_get (places ++ x ∷ [])) e ∙ (get_last places x ∙ ap Some (is ∙ ap f same)))
    (cases_lt m i)

-- the number of places after one module more
pub counted_more : (modules items : List ModuleInfo) (i : ℕ) (info : ModuleInfo) (before one : ℕ) → items ≡ modules → i < length items → info ≡ get_or items i info → before ≡ seqs_before modules i → one ≡ one_if_seq info.kind → before + one ≡ seqs_before modules (i + 1)
counted_more modules items i info before one same inside is count own =
    let there : info ≡ get_or modules i info = is ∙ ap (λ xs. get_or xs i info) same in
    let low : i < length modules = omega (arith, ap length same) in
    ap (λ n. n + one) count
    ∙ (ap (λ n. seqs_before modules i + n) (own ∙ ap (λ (x : ModuleInfo). one_if_seq x.kind) there) ∙ sym (before_more modules i info low))
