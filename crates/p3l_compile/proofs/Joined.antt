-- Statements that are put after a code, step by step.
use Rattle.std.proofs.Common.{◌≡◌, ℕ, zero, suc, pos, ◌+◌, ◌<◌, ◌≤◌, List, [], ◌∷◌, ◌++◌, length, drop, get_or, refl, sym, ap, ◌∙◌, arith, append_assoc, add-one}
use Rattle.std.specs.Prelude.{slice_set}
use Rattle.std.proofs.Math.Seq.{set-append_seam, drop-cons}
use Rattle.std.proofs.lemmas.List.{append-nil}
use Rattle.p3l_ast.specs.declared.statement.Stmt.{Stmt}
use Rattle.p3l_ast.specs.Tree.{Phrase, Statements, done, assign, if_, if_else, while_, for_, join, one, statements, phrases}
use Rattle.p3l_ast.specs.declared.expression.Expr.{Expr}
use Rattle.p3l_ast.specs.declared.expression.Target.{Target}
use Rattle.p3l_code.specs.declared.instr.Instr.{Instr}
use Rattle.p3l_code.specs.declared.instr.Instr.TheVariants.{Push, Jump, JumpZero, JumpNonZero, Turn}
use Rattle.p3l_compile.specs.Scope.{Names, found}
use Rattle.p3l_compile.specs.Phrase.{phrase_size, index_size, phrase_code, index_code, sizes_in}
use Rattle.p3l_compile.specs.Statement.{assign_size, loop_size, statement_size, store_at_code, assign_code, loop_code, statement_code}
use Rattle.p3l_compile.proofs.Emitted.{patched}

pub size_join : (c d : Statements) → statement_size (join c d) ≡ statement_size c + statement_size d
size_join done d = omega arith
size_join (assign x is e c) d = let h = size_join c d in omega arith
size_join (if_ e t c) d = let h = size_join c d in omega arith
size_join (if_else e t f c) d = let h = size_join c d in omega arith
size_join (while_ e b c) d = let h = size_join c d in omega arith
size_join (for_ x is e w y js f b c) d = let h = size_join c d in omega arith

module _ (scope : Names) where
  -- the code at a place that is the same number
  moved : (p q : ℕ) (d : Statements) (front : List Instr) → p ≡ q → front ++ statement_code scope p d ≡ front ++ statement_code scope q d
  moved p q d front e = ap (λ k. front ++ statement_code scope k d) e

  pub code_join : (pc : ℕ) (c d : Statements) → statement_code scope pc (join c d) ≡ statement_code scope pc c ++ statement_code scope (pc + statement_size c) d
  code_join pc done d = let e : pc ≡ pc + 0 = omega arith in ap (λ k. statement_code scope k d) e
  code_join pc (assign x is e c) d =
      let p = pc + assign_size is e in
      let a = assign_code scope pc x.name is e in
      let q : p + statement_size c ≡ pc + (assign_size is e + statement_size c) = omega arith in
      ap (λ l. a ++ l) (code_join p c d) ∙ sym (append_assoc a (statement_code scope p c) (statement_code scope (p + statement_size c) d))
      ∙ moved (p + statement_size c) (pc + (assign_size is e + statement_size c)) d (a ++ statement_code scope p c) q
  code_join pc (if_ e t c) d =
      let test = pc + phrase_size e in
      let end = test + 1 + statement_size t in
      let a = phrase_code scope pc e in
      let b = statement_code scope (test + 1) t in
      let r = statement_code scope end c in
      let q : end + statement_size c ≡ pc + (phrase_size e + 1 + statement_size t + statement_size c) = omega arith in
      let flat : a ++ (JumpZero end ∷ (b ++ (r ++ statement_code scope (end + statement_size c) d))) ≡ (a ++ (JumpZero end ∷ (b ++ r))) ++ statement_code scope (end + statement_size c) d = sym (append_assoc a (JumpZero end ∷ (b ++ r)) (statement_code scope (end + statement_size c) d) ∙ ap (λ l. a ++ (JumpZero end ∷ l)) (append_assoc b r (statement_code scope (end + statement_size c) d))) in
      ap (λ l. a ++ (JumpZero end ∷ (b ++ l))) (code_join end c d) ∙ flat
      ∙ moved (end + statement_size c) (pc + (phrase_size e + 1 + statement_size t + statement_size c)) d (a ++ (JumpZero end ∷ (b ++ r))) q
  code_join pc (if_else e t f c) d =
      let test = pc + phrase_size e in
      let other = test + 1 + statement_size t + 1 in
      let end = other + statement_size f in
      let a = phrase_code scope pc e in
      let b = statement_code scope (test + 1) t in
      let g = statement_code scope other f in
      let r = statement_code scope end c in
      let z = statement_code scope (end + statement_size c) d in
      let q : end + statement_size c ≡ pc + (phrase_size e + 1 + statement_size t + 1 + statement_size f + statement_size c) = omega arith in
      let flat : a ++ (JumpZero other ∷ (b ++ (Jump end ∷ (g ++ (r ++ z))))) ≡ (a ++ (JumpZero other ∷ (b ++ (Jump end ∷ (g ++ r))))) ++ z =
      sym (append_assoc a (JumpZero other ∷ (b ++ (Jump end ∷ (g ++ r)))) z ∙ ap (λ l. a ++ (JumpZero other ∷ l)) (append_assoc b (Jump end ∷ (g ++ r)) z) ∙ ap (λ l. a ++ (JumpZero other ∷ (b ++ (Jump end ∷ l)))) (append_assoc g r z)) in
      ap (λ l. a ++ (JumpZero other ∷ (b ++ (Jump end ∷ (g ++ l))))) (code_join end c d) ∙ flat
      ∙ moved (end + statement_size c) (pc + (phrase_size e + 1 + statement_size t + 1 + statement_size f + statement_size c)) d (a ++ (JumpZero other ∷ (b ++ (Jump end ∷ (g ++ r))))) q
  code_join pc (while_ e b c) d =
      let n = loop_size (statement_size b) (phrase_size e) in
      let a = loop_code pc (λ p. statement_code scope p b) (statement_size b) (λ p. phrase_code scope p e) in
      let p = pc + n in
      let q : p + statement_size c ≡ pc + (n + statement_size c) = omega arith in
      ap (λ l. a ++ l) (code_join p c d) ∙ sym (append_assoc a (statement_code scope p c) (statement_code scope (p + statement_size c) d))
      ∙ moved (p + statement_size c) (pc + (n + statement_size c)) d (a ++ statement_code scope p c) q
  code_join pc (for_ x is e w y js f b c) d =
      let m = assign_size is e in
      let k = loop_size (statement_size b + assign_size js f) (phrase_size w) in
      let first = assign_code scope pc x.name is e in
      let loop = loop_code (pc + m) (λ p. statement_code scope p b ++ assign_code scope (p + statement_size b) y.name js f) (statement_size b + assign_size js f) (λ p. phrase_code scope p w) in
      let p = pc + m + k in
      let r = statement_code scope p c in
      let z = statement_code scope (p + statement_size c) d in
      let q : p + statement_size c ≡ pc + (m + k + statement_size c) = omega arith in
      let flat : first ++ (loop ++ (r ++ z)) ≡ (first ++ (loop ++ r)) ++ z = sym (append_assoc first (loop ++ r) z ∙ ap (λ l. first ++ l) (append_assoc loop r z)) in
      ap (λ l. first ++ (loop ++ l)) (code_join p c d) ∙ flat
      ∙ moved (p + statement_size c) (pc + (m + k + statement_size c)) d (first ++ (loop ++ r)) q

  next_statement : (items : List Stmt) (d : ℕ) (s : Stmt) → d < length items → s ≡ get_or items d s → statements (drop d items) ≡ join (one s) (statements (drop (d + 1) items))
  next_statement items d s h k =
      let next : drop d items ≡ s ∷ drop (d + 1) items = rw add-one (drop-cons items d s h ∙ ap (λ x. x ∷ drop (suc d) items) (sym k)) in
      ap statements next

  pub statement_falls : (items : List Stmt) (d : ℕ) (s : Stmt) → d < length items → s ≡ get_or items d s → statement_size (statements (drop d items)) ≡ statement_size (one s) + statement_size (statements (drop (d + 1) items))
  statement_falls items d s h k = ap statement_size (next_statement items d s h k) ∙ size_join (one s) (statements (drop (d + 1) items))

  pub statement_emitted : (items : List Stmt) (d : ℕ) (s : Stmt) (base c1 whole : List Instr) → d < length items → s ≡ get_or items d s → base ++ statement_code scope (length base) (statements (drop d items)) ≡ whole → c1 ≡ base ++ statement_code scope (length base) (one s) → length c1 ≡ length base + statement_size (one s) → c1 ++ statement_code scope (length c1) (statements (drop (d + 1) items)) ≡ whole
  statement_emitted items d s base c1 whole h k w e l =
      let rest = statements (drop (d + 1) items) in
      let own = statement_code scope (length base) (one s) in
      ap (λ x. x ++ statement_code scope (length c1) rest) e
      ∙ moved (length c1) (length base + statement_size (one s)) rest (base ++ own) l
      ∙ append_assoc base own (statement_code scope (length base + statement_size (one s)) rest)
      ∙ ap (λ x. base ++ x) (sym (code_join (length base) (one s) rest) ∙ ap (statement_code scope (length base)) (sym (next_statement items d s h k)))
      ∙ w

pub statement_left : (items : List Stmt) (d : ℕ) → statement_size (statements (drop d items)) ≤ statement_size (statements items)
statement_left items zero = omega arith
statement_left [] (suc d) = omega arith
statement_left (s ∷ items) (suc d) = let h = statement_left items d in let k = size_join (one s) (statements items) in omega arith

-- a condition, a jump that is written later, and what is done where it holds
pub branch_emitted : (base test : List Instr) (body : ℕ → List Instr) (m n : ℕ) (c1 c2 c3 : List Instr) (x : Instr) (p k : ℕ) → c1 ≡ base ++ test → length c1 ≡ length base + m → p ≡ length c1 → c2 ≡ c1 ++ x ∷ [] → length c2 ≡ length c1 + 1 → c3 ≡ c2 ++ body (length c2) → length c3 ≡ length c2 + n → k ≡ length c3 → slice_set c3 p (JumpZero k) ≡ base ++ (test ++ (JumpZero (length base + m + 1 + n) ∷ (body (length base + m + 1) ++ [])))
branch_emitted base test body m n c1 c2 c3 x p k e1 l1 ep e2 l2 e3 l3 ek =
    let q2 : length c2 ≡ length base + m + 1 = omega arith in
    let qk : k ≡ length base + m + 1 + n = omega arith in
    patched base test (body (length c2)) [] x (JumpZero k) c1 c2 c3 c3 p e1 ep e2 e3 (sym (append-nil c3))
    ∙ ap (λ a. base ++ (test ++ (JumpZero a ∷ (body (length c2) ++ [])))) qk
    ∙ ap (λ b. base ++ (test ++ (JumpZero (length base + m + 1 + n) ∷ (body b ++ [])))) q2

-- both ways
pub choice_emitted : (base test : List Instr) (one other : ℕ → List Instr) (m n r : ℕ) (c1 c2 c3 c4 c5 c6 : List Instr) (x y : Instr) (p q k z : ℕ) → c1 ≡ base ++ test → length c1 ≡ length base + m → p ≡ length c1 → c2 ≡ c1 ++ x ∷ [] → length c2 ≡ length c1 + 1 → c3 ≡ c2 ++ one (length c2) → length c3 ≡ length c2 + n → q ≡ length c3 → c4 ≡ c3 ++ y ∷ [] → length c4 ≡ length c3 + 1 → k ≡ length c4 → c5 ≡ slice_set c4 p (JumpZero k) → length c5 ≡ length c4 → c6 ≡ c5 ++ other (length c5) → length c6 ≡ length c5 + r → z ≡ length c6 → length (base ++ (test ++ (JumpZero k ∷ one (length c2)))) ≡ length c3 → slice_set c6 q (Jump z) ≡ base ++ (test ++ (JumpZero (length base + m + 1 + n + 1) ∷ (one (length base + m + 1) ++ (Jump (length base + m + 1 + n + 1 + r) ∷ (other (length base + m + 1 + n + 1) ++ [])))))
choice_emitted base test one other m n r c1 c2 c3 c4 c5 c6 x y p q k z e1 l1 ep e2 l2 e3 l3 eq e4 l4 ek e5 l5 e6 l6 ez whole =
    let q2 : length c2 ≡ length base + m + 1 = omega arith in
    let q5 : length c5 ≡ length base + m + 1 + n + 1 = omega arith in
    let qk : k ≡ length base + m + 1 + n + 1 = omega arith in
    let qz : z ≡ length base + m + 1 + n + 1 + r = omega arith in
    let a = one (length c2) in
    let b = other (length c5) in
    let front = base ++ (test ++ (JumpZero k ∷ a)) in
    let h5 : c5 ≡ base ++ (test ++ (JumpZero k ∷ (a ++ y ∷ []))) = e5 ∙ patched base test a (y ∷ []) x (JumpZero k) c1 c2 c3 c4 p e1 ep e2 e3 e4 in
    let flat : (base ++ (test ++ (JumpZero k ∷ (a ++ y ∷ [])))) ++ b ≡ front ++ y ∷ b = simp append_assoc in
    let at : q ≡ length front = eq ∙ sym whole in
    let back : front ++ Jump z ∷ b ≡ base ++ (test ++ (JumpZero k ∷ (a ++ (Jump z ∷ (b ++ []))))) = simp (append_assoc, append-nil) in
    ap (λ l. slice_set l q (Jump z)) (e6 ∙ ap (λ l. l ++ b) h5 ∙ flat)
    ∙ ap (λ j. slice_set (front ++ y ∷ b) j (Jump z)) at
    ∙ set-append_seam front y b (Jump z)
    ∙ back
    ∙ ap (λ k. base ++ (test ++ (JumpZero k ∷ (a ++ (Jump z ∷ (b ++ [])))))) qk
    ∙ ap (λ z. base ++ (test ++ (JumpZero (length base + m + 1 + n + 1) ∷ (a ++ (Jump z ∷ (b ++ [])))))) qz
    ∙ ap (λ p. base ++ (test ++ (JumpZero (length base + m + 1 + n + 1) ∷ (one p ++ (Jump (length base + m + 1 + n + 1 + r) ∷ (b ++ [])))))) q2
    ∙ ap (λ p. base ++ (test ++ (JumpZero (length base + m + 1 + n + 1) ∷ (one (length base + m + 1) ++ (Jump (length base + m + 1 + n + 1 + r) ∷ (other p ++ [])))))) q5

-- a loop: a jump that is written later, the turn, the body, and the condition after it
pub loop_emitted : (base : List Instr) (body : ℕ → List Instr) (test : ℕ → List Instr) (n m : ℕ) (c1 c2 c3 c4 c5 c6 : List Instr) (x : Instr) (p top k : ℕ) → p ≡ length base → c1 ≡ base ++ x ∷ [] → length c1 ≡ length base + 1 → top ≡ length c1 → c2 ≡ c1 ++ Turn ∷ [] → length c2 ≡ length c1 + 1 → c3 ≡ c2 ++ body (length c2) → length c3 ≡ length c2 + n → k ≡ length c3 → c4 ≡ slice_set c3 p (Jump k) → length c4 ≡ length c3 → c5 ≡ c4 ++ test (length c4) → length c5 ≡ length c4 + m → c6 ≡ c5 ++ JumpNonZero top ∷ [] → c6 ≡ base ++ (loop_code (length base) body n test ++ [])
loop_emitted base body test n m c1 c2 c3 c4 c5 c6 x p top k ep e1 l1 et e2 l2 e3 l3 ek e4 l4 e5 l5 e6 =
    let q2 : length c2 ≡ length base + 2 = omega arith in
    let q4 : length c4 ≡ length base + 2 + n = omega arith in
    let qk : k ≡ length base + 2 + n = omega arith in
    let qt : top ≡ length base + 1 = omega arith in
    let a = body (length c2) in
    let t = test (length c4) in
    let all : c3 ≡ ((base ++ x ∷ []) ++ Turn ∷ []) ++ a = e3 ∙ ap (λ l. l ++ a) (e2 ∙ ap (λ l. l ++ Turn ∷ []) e1) in
    let flat : ((base ++ x ∷ []) ++ Turn ∷ []) ++ a ≡ base ++ x ∷ (Turn ∷ a) = simp append_assoc in
    let h4 : c4 ≡ base ++ Jump k ∷ (Turn ∷ a) =
    e4 ∙ ap (λ l. slice_set l p (Jump k)) (all ∙ flat) ∙ ap (λ j. slice_set (base ++ x ∷ (Turn ∷ a)) j (Jump k)) ep ∙ set-append_seam base x (Turn ∷ a) (Jump k) in
    let back : ((base ++ Jump k ∷ (Turn ∷ a)) ++ t) ++ JumpNonZero top ∷ [] ≡ base ++ ((Jump k ∷ Turn ∷ (a ++ (t ++ JumpNonZero top ∷ []))) ++ []) = simp (append_assoc, append-nil) in
    e6 ∙ ap (λ l. l ++ JumpNonZero top ∷ []) (e5 ∙ ap (λ l. l ++ t) h4) ∙ back
    ∙ ap (λ k. base ++ ((Jump k ∷ Turn ∷ (a ++ (t ++ JumpNonZero top ∷ []))) ++ [])) qk
    ∙ ap (λ u. base ++ ((Jump (length base + 2 + n) ∷ Turn ∷ (a ++ (t ++ JumpNonZero u ∷ []))) ++ [])) qt
    ∙ ap (λ u. base ++ ((Jump (length base + 2 + n) ∷ Turn ∷ (body u ++ (t ++ JumpNonZero (length base + 1) ∷ []))) ++ [])) q2
    ∙ ap (λ u. base ++ ((Jump (length base + 2 + n) ∷ Turn ∷ (body (length base + 2) ++ (test u ++ JumpNonZero (length base + 1) ∷ []))) ++ [])) q4

-- an assignment to an element
pub assign_emitted : (scope : Names) (name : List ℕ) (items : List Expr) (e : Phrase) (base c1 c2 c3 c4 : List Instr) (last : Instr) → ¬ (items ≡ []) → c1 ≡ base ++ Push (pos 0) ∷ [] → length c1 ≡ length base + 1 → c2 ≡ c1 ++ index_code scope (length c1) (sizes_in (found scope name)) (phrases items) → length c2 ≡ length c1 + index_size (phrases items) → c3 ≡ c2 ++ phrase_code scope (length c2) e → last ≡ store_at_code (found scope name) → c4 ≡ c3 ++ last ∷ [] → c4 ≡ base ++ assign_code scope (length base) name (phrases items) e
assign_emitted scope name [] e base c1 c2 c3 c4 last some e1 l1 e2 l2 e3 el e4 = absurd (some refl)
assign_emitted scope name (i ∷ items) e base c1 c2 c3 c4 last some e1 l1 e2 l2 e3 el e4 =
    let is = phrases (i ∷ items) in
    let index = λ (p : ℕ). index_code scope p (sizes_in (found scope name)) is in
    let value = λ (p : ℕ). phrase_code scope p e in
    let q2 : length c2 ≡ length base + 1 + index_size is = omega arith in
    let flat : (((base ++ Push (pos 0) ∷ []) ++ index (length base + 1)) ++ value (length base + 1 + index_size is)) ++ store_at_code (found scope name) ∷ [] ≡ base ++ Push (pos 0) ∷ (index (length base + 1) ++ (value (length base + 1 + index_size is) ++ store_at_code (found scope name) ∷ [])) = simp append_assoc in
    e4 ∙ ap (λ l. l ++ last ∷ []) (e3 ∙ ap (λ p. c2 ++ value p) q2)
    ∙ ap (λ i. (c2 ++ value (length base + 1 + index_size is)) ++ i ∷ []) el
    ∙ ap (λ l. (l ++ value (length base + 1 + index_size is)) ++ store_at_code (found scope name) ∷ []) (e2 ∙ ap (λ p. c1 ++ index p) l1 ∙ ap (λ l. l ++ index (length base + 1)) e1)
    ∙ flat

pub assign_sized : (items : List Expr) (e : Phrase) (base c1 c2 c3 c4 : ℕ) → ¬ (items ≡ []) → c1 ≡ base + 1 → c2 ≡ c1 + index_size (phrases items) → c3 ≡ c2 + phrase_size e → c4 ≡ c3 + 1 → c4 ≡ base + assign_size (phrases items) e
assign_sized [] e base c1 c2 c3 c4 some e1 e2 e3 e4 = absurd (some refl)
assign_sized (i ∷ items) e base c1 c2 c3 c4 some e1 e2 e3 e4 = omega arith

-- a body with an assignment after it
pub stepped_emitted : (scope : Names) (body : Statements) (t : Target) (e : Phrase) (c1 c2 c3 : List Instr) → c2 ≡ c1 ++ statement_code scope (length c1) body → length c2 ≡ length c1 + statement_size body → c3 ≡ c2 ++ assign_code scope (length c2) t.at.name (phrases t.index.items) e → c3 ≡ c1 ++ statement_code scope (length c1) (join body (assign t.at (phrases t.index.items) e done))
stepped_emitted scope body t e c1 c2 c3 e2 l2 e3 =
    let is = phrases t.index.items in
    let own = statement_code scope (length c1) body in
    let last = assign_code scope (length c1 + statement_size body) t.at.name is e in
    e3 ∙ ap (λ n. c2 ++ assign_code scope n t.at.name is e) l2 ∙ ap (λ l. l ++ last) e2 ∙ append_assoc c1 own last
    ∙ ap (λ l. c1 ++ (own ++ l)) (sym (append-nil last)) ∙ ap (λ l. c1 ++ l) (sym (code_join scope (length c1) body (assign t.at is e done)))
