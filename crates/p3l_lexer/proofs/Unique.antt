-- A text has its tokens in one way.
use Rattle.std.proofs.Common.{◌≡◌, ℕ, ◌<◌, List, [], ◌∷◌, ◌++◌, length, Some, None, refl, sym, ap, ◌∙◌, subst, arith}
use Rattle.p3l_lexer.specs.declared.token.Piece.{Piece}
use Rattle.p3l_lexer.specs.declared.token.TextToken.{TextToken}
use Rattle.p3l_lexer.specs.Piece.{piece_of}
use Rattle.p3l_lexer.specs.Token.{IsCut, Chunk, IsCutInto, tokens_after, IsTokens}
use Rattle.p3l_lexer.proofs.Lexing.{not_empty}

-- two ways to cut a list
data Cuttings (a x b y : List ℕ) : Type 0 where
  same : a ≡ b → x ≡ y → Cuttings a x b y
  first_shorter : (c : ℕ) (more : List ℕ) → b ≡ a ++ c ∷ more → x ≡ c ∷ more ++ y → Cuttings a x b y
  second_shorter : (c : ℕ) (more : List ℕ) → a ≡ b ++ c ∷ more → y ≡ c ∷ more ++ x → Cuttings a x b y

cuttings : (a x b y : List ℕ) → a ++ x ≡ b ++ y → Cuttings a x b y
cuttings [] x [] y h = same refl h
cuttings [] x (c ∷ b) y h = first_shorter c b refl h
cuttings (c ∷ a) x [] y h = second_shorter c a refl (sym h)
cuttings (c ∷ a) x (d ∷ b) y h = go (cuttings a x b y (let e : a ++ x ≡ b ++ y = cc in e)) (let e : c ≡ d = cc in e)
  where
    go : Cuttings a x b y → c ≡ d → Cuttings (c ∷ a) x (d ∷ b) y
    go (same p q) e = same (let r : c ∷ a ≡ d ∷ b = cc in r) q
    go (first_shorter c' more p q) e = first_shorter c' more (let r : d ∷ b ≡ c ∷ (a ++ c' ∷ more) = cc in r) q
    go (second_shorter c' more p q) e = second_shorter c' more (let r : c ∷ a ≡ d ∷ (b ++ c' ∷ more) = cc in r) q

-- the piece at the front is one
cut_same : (p q : Piece) (a x b y : List ℕ) → IsCut p a x → IsCut q b y → a ++ x ≡ b ++ y → (p ≡ q) × (a ≡ b) × (x ≡ y)
cut_same p q a x b y c d h = go (cuttings a x b y h)
  where
    go : Cuttings a x b y → (p ≡ q) × (a ≡ b) × (x ≡ y)
    go (same e f) = (let r : Some p ≡ Some q = sym c.is_piece ∙ ap piece_of e ∙ d.is_piece in let s : p ≡ q = cc in s, e, f)
    go (first_shorter byte more e f) = absurd (let r : None ≡ Some q = sym (c.longest byte more y f) ∙ ap piece_of (sym e) ∙ d.is_piece in cc)
    go (second_shorter byte more e f) = absurd (let r : None ≡ Some p = sym (d.longest byte more x f) ∙ ap piece_of (sym e) ∙ c.is_piece in cc)

chunk_same : (a b : Chunk) → a.piece ≡ b.piece → a.text ≡ b.text → a ≡ b
chunk_same a b p q = λ i. record { piece = p i; text = q i }

no_chunk : (bytes rest : List ℕ) (chunk : Chunk) → bytes ≡ [] → bytes ≡ chunk.text ++ rest → IsCut chunk.piece chunk.text rest → ⊥
no_chunk bytes rest chunk e w c = go chunk.text (not_empty chunk.text chunk.piece c.is_piece) (sym e ∙ w)
  where
    go : (text : List ℕ) → 0 < length text → [] ≡ text ++ rest → ⊥
    go [] h k = omega arith
    go (b ∷ text) h k = cc

pub chunks_same : (bytes : List ℕ) (a b : List Chunk) → IsCutInto bytes a → IsCutInto bytes b → a ≡ b
chunks_same bytes [] [] p q = refl
chunks_same bytes [] (d ∷ b) p q = absurd (no_chunk bytes q.0 d p q.1 q.2)
chunks_same bytes (c ∷ a) [] p q = absurd (no_chunk bytes p.0 c q p.1 p.2)
chunks_same bytes (c ∷ a) (d ∷ b) p q =
    let s = cut_same c.piece d.piece c.text p.0 d.text q.0 p.2 q.2 (sym p.1 ∙ q.1) in
    let e = chunk_same c d s.0 s.1 in
    let r = chunks_same q.0 a b (subst (λ x. IsCutInto x a) s.2 p.3) q.3 in
    cc

-- the tokens of a text are these and no others
pub tokens_same : (bytes : List ℕ) (a b : List TextToken) → IsTokens bytes a → IsTokens bytes b → a ≡ b
tokens_same bytes a b p q =
    p.tokens_are ∙ ap (tokens_after []) (chunks_same bytes p.chunks q.chunks p.cut q.cut) ∙ sym q.tokens_are
