-- The numbers of names, with more modules behind.
use Rattle.std.proofs.Common.{◌≡◌, ℕ, zero, suc, ◌+◌, ◌<◌, ◌≤◌, Bool, true, false, cond, List, [], ◌∷◌, ◌++◌, length, Option, Some, None, refl, ap, ◌∙◌, subst, arith}
use Rattle.std.specs.Prelude.{bytes_eq, slice_get}
use Rattle.std.specs.Map.{lookup}
use Rattle.std.proofs.lemmas.Slice.Eq.{bytes_eq-Decides}
use Rattle.p3l_skel.specs.declared.tree.ModuleInfo.{ModuleInfo}
use Rattle.p3l_skel.specs.declared.tree.ModuleKind.{ModuleKind}
use Rattle.p3l_skel.specs.declared.tree.ModuleKind.TheVariants as module_kinds
use Rattle.p3l_units.specs.Table.{is_seq_kind, one_if_seq, seqs_before, if_seq, item_of}
use Rattle.p3l_check.specs.Modules.{numbered}

same_name : (name : List ℕ) → bytes_eq name name ≡ true
same_name name = (bytes_eq-Decides name name).1 refl

found : (b : Bool) (k n : ℕ) (r s : Option ℕ) → (r ≡ Some n → s ≡ Some n) → cond b (Some k) r ≡ Some n → cond b (Some k) s ≡ Some n
found true k n r s go e = e
found false k n r s go e = go e

-- a name that had a number has it still
pub number_kept : (name : List ℕ) (j : ℕ) (infos more : List ModuleInfo) (n : ℕ) → lookup (bytes_eq name) (numbered j infos) ≡ Some n → lookup (bytes_eq name) (numbered j (infos ++ more)) ≡ Some n
number_kept name j [] more n e = absurd cc
number_kept name j (i ∷ infos) more n e = found (bytes_eq name i.name) j n _ _ (number_kept name (j + 1) infos more n) e

not_found : (b : Bool) (k n : ℕ) (r s : Option ℕ) → (r ≡ None → s ≡ Some n) → cond b (Some k) r ≡ None → cond b (Some k) s ≡ Some n
not_found true k n r s go e = absurd cc
not_found false k n r s go e = go e

-- a new name has the next number
pub number_new : (name : List ℕ) (j : ℕ) (infos more : List ModuleInfo) (info : ModuleInfo) → info.name ≡ name → lookup (bytes_eq name) (numbered j infos) ≡ None
    → lookup (bytes_eq name) (numbered j (infos ++ info ∷ more)) ≡ Some (j + length infos)
number_new name j [] more info same e =
    let own : bytes_eq name info.name ≡ true = ap (bytes_eq name) same ∙ same_name name in
    let n : j ≡ j + 0 = omega arith in
    ap (λ b. cond b (Some j) (lookup (bytes_eq name) (numbered (j + 1) more))) own ∙ ap Some n
number_new name j (i ∷ infos) more info same e =
    let n : (j + 1) + length infos ≡ j + length (i ∷ infos) = omega arith in
    not_found (bytes_eq name i.name) j (j + length (i ∷ infos)) _ _ (λ h. number_new name (j + 1) infos more info same h ∙ ap Some n) e

pub get_left : {A : Type 0} (xs ys : List A) (k : ℕ) → k < length xs → slice_get (xs ++ ys) k ≡ slice_get xs k
get_left [] ys k low = absurd (omega (arith, low))
get_left (x ∷ xs) ys zero low = refl
get_left (x ∷ xs) ys (suc k) low = get_left xs ys k (omega (arith, low))

-- fewer than all are before a `seq` module
within_all : (infos : List ModuleInfo) (m : ℕ) (info : ModuleInfo) → slice_get infos m ≡ Some info → seqs_before infos m + one_if_seq info.kind ≤ seqs_before infos (length infos)
within_all [] m info e = absurd cc
within_all (i ∷ infos) zero info e =
    let same : i ≡ info = cc in
    subst (λ (x : ModuleInfo). 0 + one_if_seq x.kind ≤ one_if_seq i.kind + seqs_before infos (length infos)) same (omega arith)
within_all (i ∷ infos) (suc m) info e = let h = within_all infos m info e in omega (arith, h)

before_left : (infos more : List ModuleInfo) (m : ℕ) → m < length infos → seqs_before (infos ++ more) m ≡ seqs_before infos m
before_left [] more m low = absurd (omega (arith, low))
before_left (i ∷ infos) more zero low = refl
before_left (i ∷ infos) more (suc m) low = ap (λ n. one_if_seq i.kind + n) (before_left infos more m (omega (arith, low)))

chosen : {A : Type 0} (o : Option ModuleInfo) (xs ys : List A) (n most : ℕ) → most ≤ length xs → ((info : ModuleInfo) → o ≡ Some info → n + one_if_seq info.kind ≤ most) → if_seq o (slice_get (xs ++ ys) n) ≡ if_seq o (slice_get xs n)
chosen None xs ys n most few below = refl
chosen (Some info) xs ys n most few below = by info.kind (below info refl)
  where
    by : (kind : ModuleKind) → n + one_if_seq kind ≤ most → cond (is_seq_kind kind) (slice_get (xs ++ ys) n) None ≡ cond (is_seq_kind kind) (slice_get xs n) None
    by module_kinds.Seq low = get_left xs ys n (omega (arith, few, low))
    by _ low = refl

-- a module's item is the same with more modules behind
pub item_left : {A : Type 0} (infos more : List ModuleInfo) (xs ys : List A) (m : ℕ) → m < length infos → length xs ≡ seqs_before infos (length infos) → item_of (infos ++ more) (xs ++ ys) m ≡ item_of infos xs m
item_left infos more xs ys m low count =
    ap (λ o. if_seq o (slice_get (xs ++ ys) (seqs_before (infos ++ more) m))) (get_left infos more m low)
    ∙ ap (λ n. if_seq (slice_get infos m) (slice_get (xs ++ ys) n)) (before_left infos more m low)
    ∙ chosen (slice_get infos m) xs ys (seqs_before infos m) (seqs_before infos (length infos)) (omega (arith, count)) (λ info e. within_all infos m info e)
