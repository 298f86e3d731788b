-- The typing of workers between two rows of channels: the rows carry what is said of them (`row_in`, `row_out`), and together
-- with the two processes before the workers they are read and written once (`fan_reads`, `fan_writes`).
use Rattle.std.proofs.Common.{◌≡◌, ℕ, zero, suc, ◌+◌, ◌<◌, ◌≤◌, List, [], ◌∷◌, ◌++◌, length, length-append, get_or, replicate, refl, sym, ap, ◌∙◌, subst, arith, append-nil}
use Rattle.std.proofs.lemmas.List.{length-replicate, get_or-replicate}
use Rattle.p3l_skel.specs.declared.tree.Tree.{Tree}
use Rattle.p3l_skel.specs.Tree.{node_at, part_at}
use Rattle.p3l_firing.specs.declared.process.ProcKind.{ProcKind}
use Rattle.p3l_firing.specs.Process.{times}
use Rattle.p3l_firing.specs.Typed.{FitsKind}
use Rattle.p3l_firing.specs.Widths.{Widths, Carries, AllCarry}
use Rattle.p3l_template.specs.Fan.{Fanned, first_proc, last_proc, fan_shape}
use Rattle.p3l_template.specs.Shape.{Base, numbers_from, fan_slots}
use Rattle.p3l_template.specs.Typing.{IsTypedShape, IsInner, SlotFits, Carry, slot_ins, slot_outs}
use Rattle.p3l_template.specs.Width.{no_width, worker_widths}
use Rattle.p3l_template.specs.declared.width.Width.{Width}
use Rattle.p3l_template.specs.laws.Fan.{fan_at, fan_length}
use Rattle.p3l_template.specs.laws.Plain.{plain_credits}
use Rattle.p3l_template.specs.laws.TimesLaw.{times_append, times_cons, numbers_append, fan_ins, fan_outs, all_numbers}

-- the channels to n workers, and those from them
pub rows_count : (n : ℕ) (a b : Width) → length (worker_widths n a b) ≡ n + n
rows_count n a b =
    length-append (replicate n a) (replicate n b) ∙ omega (arith, length-replicate n a, length-replicate n b)

append_left : (n : ℕ) (a : Width) (xs : List Width) (k : ℕ) → k < n → get_or (replicate n a ++ xs) k no_width ≡ a
append_left zero a xs k l = absurd (omega arith)
append_left (suc n) a xs zero l = refl
append_left (suc n) a xs (suc k) l = append_left n a xs k (omega arith)

append_right : (n : ℕ) (a : Width) (xs : List Width) (k : ℕ) →
    get_or (replicate n a ++ xs) (n + k) no_width ≡ get_or xs k no_width
append_right zero a xs k = ap (λ z. get_or xs z no_width) (omega arith)
append_right (suc n) a xs k =
    let e : suc n + k ≡ suc (n + k) = omega arith in
    ap (λ z. get_or (replicate (suc n) a ++ xs) z no_width) e ∙ append_right n a xs k

-- the width of any of them has few tags
replicate_few : (n : ℕ) (a : Width) (most k : ℕ) → a.tags ≤ most → (get_or (replicate n a) k no_width).tags ≤ most
replicate_few zero a most k h = omega arith
replicate_few (suc n) a most zero h = h
replicate_few (suc n) a most (suc k) h = replicate_few n a most k h

append_few : (n : ℕ) (a : Width) (xs : List Width) (most k : ℕ) → a.tags ≤ most →
    ((j : ℕ) → (get_or xs j no_width).tags ≤ most) → (get_or (replicate n a ++ xs) k no_width).tags ≤ most
append_few zero a xs most k h g = g k
append_few (suc n) a xs most zero h g = h
append_few (suc n) a xs most (suc k) h g = append_few n a xs most k h g

pub rows_few : (n : ℕ) (a b : Width) (most k : ℕ) → a.tags ≤ most → b.tags ≤ most →
    (get_or (worker_widths n a b) k no_width).tags ≤ most
rows_few n a b most k h g = append_few n a (replicate n b) most k h (λ j. replicate_few n b most j g)

module _ (w : Widths) (c n : ℕ) (a b : Width) (own : Carry w c (worker_widths n a b)) where
  pub in_at : (k : ℕ) → k < n → Carries w (c + k) a.words a.tags
  unfolding Carry
  in_at k l =
      subst (λ z. Carries w (c + k) z.words z.tags) (append_left n a (replicate n b) k l)
      (own k (omega (arith, l, rows_count n a b)))

  pub out_at : (k : ℕ) → k < n → Carries w (c + n + k) b.words b.tags
  unfolding Carry
  out_at k l =
      let e : c + (n + k) ≡ c + n + k = omega arith in
      subst (λ z. Carries w z b.words b.tags) e
      (subst (λ z. Carries w (c + (n + k)) z.words z.tags)
      (append_right n a (replicate n b) k ∙ get_or-replicate n k b no_width l)
      (own (n + k) (omega (arith, l, rows_count n a b))))

  pub row_in : AllCarry w (numbers_from c n) a.words a.tags
  row_in = all_numbers (λ d. Carries w d a.words a.tags) c n in_at

  pub row_out : AllCarry w (numbers_from (c + n) n) b.words b.tags
  row_out = all_numbers (λ d. Carries w d b.words b.tags) (c + n) n out_at

pub fan_reads : (c input i n : ℕ) →
    times c ((input ∷ (numbers_from (i + n) n ++ [])) ++ slot_ins (fan_slots i (i + n) n))
    ≡ times c (input ∷ numbers_from i (n + n))
fan_reads c input i n =
    let a = times_append c (input ∷ (numbers_from (i + n) n ++ [])) (slot_ins (fan_slots i (i + n) n)) in
    let b = times_cons c input (numbers_from (i + n) n ++ []) in
    let d = ap (times c) (append-nil (numbers_from (i + n) n)) in
    let e = ap (times c) (fan_ins i (i + n) n) in
    let f = times_cons c input (numbers_from i (n + n)) in
    let g = ap (times c) (numbers_append i n n) ∙ times_append c (numbers_from i n) (numbers_from (i + n) n) in
    omega (arith, a, b, d, e, f, g)

pub fan_writes : (c output i n : ℕ) →
    times c ((numbers_from i n ++ (output ∷ [])) ++ slot_outs (fan_slots i (i + n) n))
    ≡ times c (output ∷ numbers_from i (n + n))
fan_writes c output i n =
    let a = times_append c (numbers_from i n ++ (output ∷ [])) (slot_outs (fan_slots i (i + n) n)) in
    let b = times_append c (numbers_from i n) (output ∷ []) in
    let e = ap (times c) (fan_outs i (i + n) n) in
    let f = times_cons c output (numbers_from i (n + n)) in
    let g = ap (times c) (numbers_append i n n) ∙ times_append c (numbers_from i n) (numbers_from (i + n) n) in
    omega (arith, a, b, e, f, g)

-- workers that take x words and give y, with `deeper` tags more: such a shape is typed once its two
-- processes fit there
pub fan_typed : (tree : Tree) (node n : ℕ) (first last : ProcKind) (fanned : Fanned) (x y deeper : ℕ) → deeper ≤ 2 →
    IsInner first → IsInner last → (node_at tree (part_at tree node 0)).ins ≡ x →
    (node_at tree (part_at tree node 0)).outs ≡ y →
    ((w : Widths) (base : Base) (t : ℕ) → Carries w base.input (node_at tree node).ins t →
    Carries w base.output (node_at tree node).outs t → AllCarry w (numbers_from base.chan n) x (t + deeper) →
    AllCarry w (numbers_from (base.chan + n) n) y (t + deeper) →
    FitsKind first tree w (first_proc first node n base) × FitsKind last tree w (last_proc last node n base)) →
    IsTypedShape tree node (fan_shape first last node n fanned)
fan_typed tree node n first last fanned x y deeper few in_first in_last takes gives fits =
    let a : ℕ → Width = λ t. record { words = x; tags = t + deeper } in
    let b : ℕ → Width = λ t. record { words = y; tags = t + deeper } in
    record {
      widths = λ t. worker_widths n (a t) (b t);
      deeper = deeper;
      shallow = few;
      count = λ t base. rows_count n (a t) (b t);
      tags = λ t k. rows_few n (a t) (b t) (t + 2) k (omega (arith, few)) (omega (arith, few));
      credits = λ cap base t k l. plain_credits (n + n) cap k;
      reads = λ base c. fan_reads c base.input base.chan n;
      writes = λ base c. fan_writes c base.output base.chan n;
      inner = λ base. (in_first, (in_last, tt));
      procs = λ w base t s.
          let both = fits w base t s.input s.output (row_in w base.chan n (a t) (b t) s.own)
          (row_out w base.chan n (a t) (b t) s.own) in
          (both.0, (both.1, tt));
      slots = λ w base t s v l.
          let k : v < n = omega (arith, l, fan_length base.chan (base.chan + n) n) in
          subst (SlotFits tree node w (t + deeper)) (sym (fan_at base.chan (base.chan + n) n v k))
          (record {
            input = subst (λ z. Carries w (base.chan + v) z (t + deeper)) (sym takes)
                (in_at w base.chan n (a t) (b t) s.own v k);
            output = subst (λ z. Carries w (base.chan + n + v) z (t + deeper)) (sym gives)
                (out_at w base.chan n (a t) (b t) s.own v k);
          });
    }
