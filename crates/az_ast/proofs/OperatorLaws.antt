-- The laws of the operators. An operand stands for the word congruent to it, and each value is a word. But
-- for the difference the operators are associative and commutative, and the identity changes no word: all
-- of it on all whole numbers.
use Rattle.std.proofs.Common.{◌≡◌, ℕ, ◌^◌, ◌<◌, ◌-◌, refl, sym, ap, ◌∙◌, arith}
use Rattle.std.specs.Prelude.{ℤ, neg_ℤ, ◌+ℤ◌, ◌-ℤ◌, ◌*ℤ◌, bit_and, bit_or, bit_xor}
use Rattle.std.specs.Int.{w64, cast_signed, cast_unsigned}
use Rattle.std.specs.Int.Bits.{and_lt, xor_assoc, xor_self, or_zero_l, xor_zero_l, xor_zero_r}
use borrow.Author.Differences.{fits_in, read_fits}
use mir.ValLaws.{of_z_fits}
use Rattle.std.proofs.Math.IntN.{+ℤ_assoc, +ℤ_comm}
use Rattle.std.proofs.lemmas.Int.{ints, clamps, int_wrap_fits, SFits-int_wrap, int_wrap-add_left, int_wrap-add_right, int_wrap-mul_left, int_wrap-mul_right, of_z-to_z, to_z-of_z}
use Rattle.std.proofs.lemmas.Nat.{and_assoc, and_comm, or_comm, xor_comm, or_lt, xor_lt}
use Rattle.std.proofs.lemmas.Nat.Bits.{bit_at_and, bit_at_or, bit_at_ones, bit_at-lt, same_from_bits, same_from_bits_below}
use Rattle.az_lin.proofs.Integers.{mul_assoc_int, mul_comm_int}
use Rattle.az_ast.specs.declared.op.Op.{Op}
use Rattle.az_ast.specs.declared.op.Op.TheVariants.{Add, Sub, Mul, And, Or, Xor, Max, Min}
use Rattle.az_ast.specs.Operators.{IsWord, wrapped, bitwise, on_words, applied, identity, FoldsFromIdentity}

pub wrapped-IsWord : (a : ℤ) → IsWord (wrapped a)
wrapped-IsWord a = SFits-int_wrap w64 a

pub wrapped-word : (a : ℤ) → IsWord a → wrapped a ≡ a
wrapped-word a f = int_wrap_fits w64 a f

pub wrapped-wrapped : (a : ℤ) → wrapped (wrapped a) ≡ wrapped a
wrapped-wrapped a = wrapped-word (wrapped a) (wrapped-IsWord a)

-- at words an operator is that of the words
pub applied-words : (op : Op) (a b : ℤ) → IsWord a → IsWord b → applied op a b ≡ on_words op a b
applied-words op a b f g = (λ i. on_words op (wrapped-word a f i) (wrapped-word b g i))

-- to wrap an operand first changes nothing
pub applied-left : (op : Op) (a b : ℤ) → applied op (wrapped a) b ≡ applied op a b
applied-left op a b = ap (λ x. on_words op x (wrapped b)) (wrapped-wrapped a)

pub applied-right : (op : Op) (a b : ℤ) → applied op a (wrapped b) ≡ applied op a b
applied-right op a b = ap (λ x. on_words op (wrapped a) x) (wrapped-wrapped b)

-- the bits of a word are fewer than 64
bits_below : (a : ℤ) → IsWord a → cast_unsigned w64 a < 2 ^ 64
bits_below a f = (of_z_fits w64 a f).fits

-- a bitwise operator keeps to 64 bits, and works on the words' bits
module _ (f : ℕ → ℕ → ℕ) (kept : (m n : ℕ) → m < 2 ^ 64 → n < 2 ^ 64 → f m n < 2 ^ 64) where
  bitwise-IsWord : (a b : ℤ) → IsWord (bitwise f a b)
  bitwise-IsWord a b = omega (arith, fits_in, read_fits w64 (f (cast_unsigned w64 a) (cast_unsigned w64 b)))

  module _ (a b : ℤ) (g : IsWord a) (h : IsWord b) where
    bits : cast_unsigned w64 (bitwise f a b) ≡ f (cast_unsigned w64 a) (cast_unsigned w64 b)
    bits = of_z-to_z w64 (f (cast_unsigned w64 a) (cast_unsigned w64 b)) (kept _ _ (bits_below a g) (bits_below b h))

  bitwise-assoc : ((k m n : ℕ) → f (f k m) n ≡ f k (f m n)) → (a b c : ℤ) → IsWord a → IsWord b → IsWord c → bitwise f (bitwise f a b) c ≡ bitwise f a (bitwise f b c)
  bitwise-assoc same a b c g h k =
      ap (λ n. cast_signed w64 (f n (cast_unsigned w64 c))) (bits a b g h)
      ∙ (ap (cast_signed w64) (same (cast_unsigned w64 a) (cast_unsigned w64 b) (cast_unsigned w64 c))
      ∙ sym (ap (λ n. cast_signed w64 (f (cast_unsigned w64 a) n)) (bits b c h k)))

or_assoc : (k m n : ℕ) → bit_or (bit_or k m) n ≡ bit_or k (bit_or m n)
or_assoc k m n = same_from_bits _ _ (λ i. omega (arith, bit_at_or (bit_or k m) n i, bit_at_or k m i, bit_at_or k (bit_or m n) i, bit_at_or m n i))

-- the value of an operator at two words is a word
pub on_words-IsWord : (op : Op) (a b : ℤ) → IsWord a → IsWord b → IsWord (on_words op a b)
on_words-IsWord Add a b f g = wrapped-IsWord (a +ℤ b)
on_words-IsWord Sub a b f g = wrapped-IsWord (a -ℤ b)
on_words-IsWord Mul a b f g = wrapped-IsWord (a *ℤ b)
on_words-IsWord And a b f g = bitwise-IsWord bit_and (and_lt 64) a b
on_words-IsWord Or a b f g = bitwise-IsWord bit_or (or_lt 64) a b
on_words-IsWord Xor a b f g = bitwise-IsWord bit_xor (xor_lt 64) a b
on_words-IsWord Max a b f g = omega (arith, ints, clamps)
on_words-IsWord Min a b f g = omega (arith, ints, clamps)

pub applied-IsWord : (op : Op) (a b : ℤ) → IsWord (applied op a b)
applied-IsWord op a b = on_words-IsWord op (wrapped a) (wrapped b) (wrapped-IsWord a) (wrapped-IsWord b)

on_words-assoc : (op : Op) → FoldsFromIdentity op → (a b c : ℤ) → IsWord a → IsWord b → IsWord c → on_words op (on_words op a b) c ≡ on_words op a (on_words op b c)
on_words-assoc Add h a b c f g k = int_wrap-add_left w64 (a +ℤ b) c ∙ (ap wrapped (+ℤ_assoc a b c) ∙ sym (int_wrap-add_right w64 a (b +ℤ c)))
on_words-assoc Sub h a b c f g k = absurd (h refl)
on_words-assoc Mul h a b c f g k = int_wrap-mul_left w64 (a *ℤ b) c ∙ (ap wrapped (mul_assoc_int a b c) ∙ sym (int_wrap-mul_right w64 a (b *ℤ c)))
on_words-assoc And h a b c f g k = bitwise-assoc bit_and (and_lt 64) (λ l m n. and_assoc n l m) a b c f g k
on_words-assoc Or h a b c f g k = bitwise-assoc bit_or (or_lt 64) or_assoc a b c f g k
on_words-assoc Xor h a b c f g k = bitwise-assoc bit_xor (xor_lt 64) xor_assoc a b c f g k
on_words-assoc Max h a b c f g k = omega (arith, ints, clamps)
on_words-assoc Min h a b c f g k = omega (arith, ints, clamps)

-- the order of two applications is free
pub applied-assoc : (op : Op) → FoldsFromIdentity op → (a b c : ℤ) → applied op (applied op a b) c ≡ applied op a (applied op b c)
applied-assoc op h a b c =
    ap (λ x. on_words op x (wrapped c)) (wrapped-word (applied op a b) (applied-IsWord op a b))
    ∙ (on_words-assoc op h (wrapped a) (wrapped b) (wrapped c) (wrapped-IsWord a) (wrapped-IsWord b) (wrapped-IsWord c)
    ∙ sym (ap (on_words op (wrapped a)) (wrapped-word (applied op b c) (applied-IsWord op b c))))

on_words-comm : (op : Op) → FoldsFromIdentity op → (a b : ℤ) → on_words op a b ≡ on_words op b a
on_words-comm Add h a b = ap wrapped (+ℤ_comm a b)
on_words-comm Sub h a b = absurd (h refl)
on_words-comm Mul h a b = ap wrapped (mul_comm_int a b)
on_words-comm And h a b = ap (cast_signed w64) (and_comm (cast_unsigned w64 a) (cast_unsigned w64 b))
on_words-comm Or h a b = ap (cast_signed w64) (or_comm (cast_unsigned w64 a) (cast_unsigned w64 b))
on_words-comm Xor h a b = ap (cast_signed w64) (xor_comm (cast_unsigned w64 a) (cast_unsigned w64 b))
on_words-comm Max h a b = omega (arith, ints, clamps)
on_words-comm Min h a b = omega (arith, ints, clamps)

-- and so is that of the operands
pub applied-comm : (op : Op) → FoldsFromIdentity op → (a b : ℤ) → applied op a b ≡ applied op b a
applied-comm op h a b = on_words-comm op h (wrapped a) (wrapped b)

ones_and : (n : ℕ) → n < 2 ^ 64 → bit_and (2 ^ 64 - 1) n ≡ n
ones_and n h =
    same_from_bits_below 64 (bit_and (2 ^ 64 - 1) n) n (and_lt 64 (2 ^ 64 - 1) n (omega arith) h) h
    (λ i l. omega (arith, bit_at_and (2 ^ 64 - 1) n i, bit_at_ones 64 i l, bit_at-lt n i))

on_words-identity : (op : Op) → FoldsFromIdentity op → (a : ℤ) → IsWord a → on_words op (identity op) a ≡ a
on_words-identity Add h a f = ap wrapped (omega (arith, ints)) ∙ wrapped-word a f
on_words-identity Sub h a f = absurd (h refl)
on_words-identity Mul h a f = ap wrapped (omega (arith, ints)) ∙ wrapped-word a f
on_words-identity And h a f = ap (cast_signed w64) (ones_and (cast_unsigned w64 a) (bits_below a f)) ∙ to_z-of_z w64 a f
on_words-identity Or h a f = ap (cast_signed w64) (or_zero_l (cast_unsigned w64 a)) ∙ to_z-of_z w64 a f
on_words-identity Xor h a f = ap (cast_signed w64) (xor_zero_l (cast_unsigned w64 a)) ∙ to_z-of_z w64 a f
on_words-identity Max h a f = omega (arith, ints, clamps)
on_words-identity Min h a f = omega (arith, ints, clamps)

pub identity-IsWord : (op : Op) → IsWord (identity op)
identity-IsWord Add = omega (arith, ints)
identity-IsWord Sub = omega (arith, ints)
identity-IsWord Mul = omega (arith, ints)
identity-IsWord And = omega (arith, ints)
identity-IsWord Or = omega (arith, ints)
identity-IsWord Xor = omega (arith, ints)
identity-IsWord Max = omega (arith, ints)
identity-IsWord Min = omega (arith, ints)

-- the identity leaves the other operand's word
pub applied-identity : (op : Op) → FoldsFromIdentity op → (a : ℤ) → applied op (identity op) a ≡ wrapped a
applied-identity op h a =
    ap (λ x. on_words op x (wrapped a)) (wrapped-word (identity op) (identity-IsWord op))
    ∙ on_words-identity op h (wrapped a) (wrapped-IsWord a)

-- what a sum adds, a difference takes away
pub sum-undone : (a b : ℤ) → applied Sub (applied Add a b) b ≡ wrapped a
sum-undone a b =
    ap (λ x. wrapped (x -ℤ wrapped b)) (wrapped-wrapped (wrapped a +ℤ wrapped b))
    ∙ (int_wrap-add_left w64 (wrapped a +ℤ wrapped b) (neg_ℤ (wrapped b))
    ∙ (ap wrapped (omega (arith, ints)) ∙ wrapped-wrapped a))

xor_back : (m n : ℕ) → bit_xor (bit_xor m n) n ≡ m
xor_back m n = xor_assoc m n n ∙ (ap (bit_xor m) (xor_self n) ∙ xor_zero_r m)

-- and an exclusive or undoes itself
pub xor-undone : (a b : ℤ) → applied Xor (applied Xor a b) b ≡ wrapped a
xor-undone a b =
    ap (λ x. bitwise bit_xor x (wrapped b)) (wrapped-word (applied Xor a b) (applied-IsWord Xor a b))
    ∙ (ap (λ n. cast_signed w64 (bit_xor n (cast_unsigned w64 (wrapped b)))) (bits bit_xor (xor_lt 64) (wrapped a) (wrapped b) (wrapped-IsWord a) (wrapped-IsWord b))
    ∙ (ap (cast_signed w64) (xor_back (cast_unsigned w64 (wrapped a)) (cast_unsigned w64 (wrapped b)))
    ∙ to_z-of_z w64 (wrapped a) (wrapped-IsWord a)))
