-- Numbers that hold the parts of a token.
use Rattle.std.proofs.Common.{◌≡◌, refl, sym, ◌∙◌, ap, ℕ, Bool, true, false, ◌+◌, ◌-◌, ◌*◌, ◌/◌, ◌%◌, ◌^◌, ◌<◌, ◌≤◌}
use Rattle.std.proofs.Common.{◌==◌}
use Rattle.std.proofs.Common.{bit_and, bit_or, arith, lit<, subst}
use Rattle.std.specs.Prelude.{eqb}
use Rattle.std.proofs.lemmas.Bool.{eqb-true}
use Rattle.std.specs.Int.Bits.{and_self, and_zero_l, and_zero_r}
use Rattle.std.proofs.lemmas.Nat.{and_comm, and_assoc, and-not, or_disjoint, pow-add, pow_pos}
use Rattle.std.proofs.lemmas.Nat.Bits.{and_high}
use Rattle.std.proofs.Math.Nat.{mul-div_cancel, mod-eq_of_lt, pow-le-pow_right, mul-lt-mul_of_pos_right}
use Rattle.js_kind.specs.declared.kind.Kind.{Kind}
use Rattle.js_kind.specs.declared.kind.Kind.TheVariants as variant
use Rattle.js_kind.specs.declared.kind.TheConstants.Kind.{VARIANTS}
use Rattle.js_kind.specs.Kinds.{number}
use Rattle.js_kind.specs.Packed.{kind_at, flag, packed, unpacked, IsPacked, Replaces}
use Rattle.js_kind.specs.TokenParts.{TokenParts}
use Rattle.js_kind.proofs.KindNumbers.{kind_at_number}
use Rattle.std.proofs.lemmas.Option.{get_or_from_slice_get}

-- What is not under a mask has no bit in common with a number under it.
apart : (w m n x : ℕ) → m < 2 ^ w → bit_and x m ≡ x → bit_and (bit_and n (2 ^ w - 1 - m)) x ≡ 0
apart w m n x small under =
    let rest = 2 ^ w - 1 - m in
    let none : bit_and rest m ≡ 0 =
    let both : bit_and rest m + bit_and m m ≡ m = and-not w m m small small in
    let same : bit_and m m ≡ m = and_self m in
    omega arith
    in
    ap (bit_and (bit_and n rest)) (sym under ∙ and_comm x m)
    ∙ sym (and_assoc x (bit_and n rest) m)
    ∙ ap (λ a. bit_and a x) (and_assoc m n rest ∙ ap (bit_and n) none ∙ and_zero_r n)
    ∙ and_zero_l x

-- Bits are cleared under a mask and others put in their place.
replaced : (w j k n v : ℕ) → j + k ≤ w → n < 2 ^ w → v < 2 ^ j
    → Replaces j k n v (bit_or (bit_and n (2 ^ w - 1 - (2 ^ (j + k) - 2 ^ k))) (v * 2 ^ k))
replaced w j k n v within small fits =
    let mask = 2 ^ (j + k) - 2 ^ k in
    let cleared = bit_and n (2 ^ w - 1 - mask) in
    let mask_small : mask < 2 ^ w =
    let power : 2 ^ (j + k) ≤ 2 ^ w = pow-le-pow_right (lit< tt) within in
    let pos : 0 < 2 ^ k = pow_pos k in
    let pos_w : 0 < 2 ^ w = pow_pos w in
    omega arith
    in
    let shifted : bit_and (v * 2 ^ k) mask ≡ v * 2 ^ k =
    and_high (v * 2 ^ k) j k
    ∙ ap (λ a. a % 2 ^ j * 2 ^ k) (mul-div_cancel v (pow_pos k))
    ∙ ap (λ a. a * 2 ^ k) (mod-eq_of_lt fits)
    in
    let sum : bit_or cleared (v * 2 ^ k) ≡ cleared + v * 2 ^ k = or_disjoint cleared (v * 2 ^ k) (apart w mask n (v * 2 ^ k) mask_small shifted) in
    let old : cleared + bit_and mask n ≡ n = ap (λ a. a + bit_and mask n) (and_comm n (2 ^ w - 1 - mask)) ∙ and-not w mask n mask_small small in
    let under : bit_and mask n ≡ n / 2 ^ k % 2 ^ j * 2 ^ k = and_comm mask n ∙ and_high n j k in
    omega arith

-- The same with the mask as it is shifted.
pub replaced_under : (j k n v ones : ℕ) → ones + 1 ≡ 2 ^ j → j + k ≤ 128 → n < 2 ^ 128 → v < 2 ^ j
    → Replaces j k n v (bit_or (bit_and n (2 ^ 128 - 1 - ones * 2 ^ k % 2 ^ 128)) (v * 2 ^ k % 2 ^ 128))
replaced_under j k n v ones is within small fits =
    let power : 2 ^ (j + k) ≤ 2 ^ 128 = pow-le-pow_right (lit< tt) within in
    let split : 2 ^ (j + k) ≡ 2 ^ j * 2 ^ k = pow-add 2 j k in
    let value_small : v * 2 ^ k < 2 ^ j * 2 ^ k = mul-lt-mul_of_pos_right fits (pow_pos k) in
    let value_fits : v * 2 ^ k < 2 ^ 128 = omega arith in
    let ones_fit : ones < 2 ^ j = omega arith in
    let ones_small : ones * 2 ^ k < 2 ^ j * 2 ^ k = mul-lt-mul_of_pos_right ones_fit (pow_pos k) in
    let ones_fits : ones * 2 ^ k < 2 ^ 128 = omega arith in
    let mask : ones * 2 ^ k ≡ 2 ^ (j + k) - 2 ^ k =
    let whole : (ones + 1) * 2 ^ k ≡ 2 ^ (j + k) = ap (λ a. a * 2 ^ k) is ∙ sym split in
    omega arith
    in
    rw (mod-eq_of_lt value_fits, mod-eq_of_lt ones_fits, mask) (replaced 128 j k n v within small fits)

-- Each kind is the kind of its number.
kind_of_number : (kind : Kind) → kind_at (number kind) ≡ kind
kind_of_number kind = get_or_from_slice_get VARIANTS (number kind) kind variant.Eof (kind_at_number kind)

number_small : (kind : Kind) → number kind < 256
number_small variant.Eof = lit< tt
number_small _ = lit< tt

flag_small : (b : Bool) → flag b < 256
flag_small true = lit< tt
flag_small false = lit< tt

flag_is : (b : Bool) → (flag b == 1) ≡ b
flag_is true = refl
flag_is false = refl

-- what stands at each place of a number
record Places (n start end kind line escaped separator : ℕ) : Type 0 where
  start_at : n % 2 ^ 32 ≡ start
  end_at : n / 2 ^ 32 % 2 ^ 32 ≡ end
  kind_at : n / 2 ^ 64 % 2 ^ 8 ≡ kind
  line_at : n / 2 ^ 72 % 2 ^ 8 ≡ line
  escaped_at : n / 2 ^ 80 % 2 ^ 8 ≡ escaped
  separator_at : n / 2 ^ 88 % 2 ^ 8 ≡ separator

nested_places : (a b k x e s : ℕ) → a < 2 ^ 32 → b < 2 ^ 32 → k < 256 → x < 256 → e < 256 → s < 256
    → Places (a + 2 ^ 32 * (b + 2 ^ 32 * (k + 2 ^ 8 * (x + 2 ^ 8 * (e + 2 ^ 8 * s))))) a b k x e s
nested_places a b k x e s ha hb hk hx he hs = record {
  start_at = omega arith;
  end_at = omega arith;
  kind_at = omega arith;
  line_at = omega arith;
  escaped_at = omega arith;
  separator_at = omega arith;
}

-- the places of a number of parts
abbrev PlacesOf : TokenParts → Type 0
PlacesOf t =
    Places (packed t) t.start t.end (number t.kind) (flag t.is_on_new_line) (flag t.escaped) (flag t.has_separator)

places : (t : TokenParts) → t.start < 2 ^ 32 → t.end < 2 ^ 32 → PlacesOf t
places t start end =
    let a = t.start in
    let b = t.end in
    let k = number t.kind in
    let x = flag t.is_on_new_line in
    let e = flag t.escaped in
    let s = flag t.has_separator in
    let P : ℕ → Type 0 = λ n. Places n a b k x e s in
    let nested : a + 2 ^ 32 * (b + 2 ^ 32 * (k + 2 ^ 8 * (x + 2 ^ 8 * (e + 2 ^ 8 * s)))) ≡ packed t = omega arith in
    subst P nested
    (nested_places a b k x e s start end (number_small t.kind) (flag_small t.is_on_new_line) (flag_small t.escaped)
    (flag_small t.has_separator))

-- the number holds these parts, and nothing else
pub record Holds (n : ℕ) (t : TokenParts) : Type 0 where
  pub parts : unpacked n ≡ t
  pub only : IsPacked n

-- A number of parts holds them.
pub holds_parts : (t : TokenParts) (n : ℕ) → n ≡ packed t → t.start < 2 ^ 32 → t.end < 2 ^ 32 → Holds n t
holds_parts t n is start end =
    let p = places t start end in
    let parts : unpacked (packed t) ≡ t =
    rw (
      p.start_at,
      p.end_at,
      p.kind_at,
      p.line_at,
      p.escaped_at,
      p.separator_at,
      kind_of_number t.kind,
      flag_is t.is_on_new_line,
      flag_is t.escaped,
      flag_is t.has_separator,
    ) refl
    in
    record {
      parts = ap unpacked is ∙ parts;
      only = ap (λ a. packed (unpacked a)) is ∙ ap packed parts ∙ sym is;
    }

-- the number is that of these parts
pub record IsOf (n : ℕ) (t : TokenParts) : Type 0 where
  pub is : packed t ≡ n
  pub start : t.start < 2 ^ 32
  pub end : t.end < 2 ^ 32

pub is_of : (n : ℕ) (t : TokenParts) → unpacked n ≡ t → IsPacked n → IsOf n t
is_of n t parts only =
    let P : TokenParts → Type 0 = λ u. IsOf n u in
    subst P parts (record { is = only; start = omega arith; end = omega arith })

-- what stands at each place of the number of these parts
abbrev places_in : (n : ℕ) (t : TokenParts) → IsOf n t
    → Places n t.start t.end (number t.kind) (flag t.is_on_new_line) (flag t.escaped) (flag t.has_separator)
places_in n t h =
    let P : ℕ → Type 0 = λ a. Places a t.start t.end (number t.kind) (flag t.is_on_new_line) (flag t.escaped) (flag t.has_separator) in
    subst P h.is (places t h.start h.end)

-- The number of the kind stands at its place.
pub number_at : (n : ℕ) (t : TokenParts) → IsOf n t → n / 2 ^ 64 % 2 ^ 8 ≡ number t.kind
number_at n t h = (places_in n t h).kind_at

-- Another start, end, kind or flag in the place of the one that was.
pub with_start : (t : TokenParts) (n m start : ℕ) → IsOf n t → start < 2 ^ 32 → Replaces 32 0 n start m
    → Holds m (record t { start = start })
with_start t n m start h fits put =
    let is : packed t ≡ n = h.is in
    let old : n % 2 ^ 32 ≡ t.start = (places_in n t h).start_at in
    holds_parts (record t { start = start }) m (omega arith) fits h.end

pub with_end : (t : TokenParts) (n m end : ℕ) → IsOf n t → end < 2 ^ 32 → Replaces 32 32 n end m
    → Holds m (record t { end = end })
with_end t n m end h fits put =
    let is : packed t ≡ n = h.is in
    let old : n / 2 ^ 32 % 2 ^ 32 ≡ t.end = (places_in n t h).end_at in
    holds_parts (record t { end = end }) m (omega arith) h.start fits

pub with_kind : (t : TokenParts) (n m v : ℕ) (kind : Kind) → IsOf n t → v ≡ number kind → Replaces 8 64 n v m
    → Holds m (record t { kind = kind })
with_kind t n m v kind h value put =
    let is : packed t ≡ n = h.is in
    let old : n / 2 ^ 64 % 2 ^ 8 ≡ number t.kind = (places_in n t h).kind_at in
    holds_parts (record t { kind = kind }) m (omega arith) h.start h.end

pub with_line : (t : TokenParts) (n m v : ℕ) (b : Bool) → IsOf n t → v ≡ flag b → Replaces 8 72 n v m
    → Holds m (record t { is_on_new_line = b })
with_line t n m v b h value put =
    let is : packed t ≡ n = h.is in
    let old : n / 2 ^ 72 % 2 ^ 8 ≡ flag t.is_on_new_line = (places_in n t h).line_at in
    holds_parts (record t { is_on_new_line = b }) m (omega arith) h.start h.end

pub with_escaped : (t : TokenParts) (n m v : ℕ) (b : Bool) → IsOf n t → v ≡ flag b → Replaces 8 80 n v m
    → Holds m (record t { escaped = b })
with_escaped t n m v b h value put =
    let is : packed t ≡ n = h.is in
    let old : n / 2 ^ 80 % 2 ^ 8 ≡ flag t.escaped = (places_in n t h).escaped_at in
    holds_parts (record t { escaped = b }) m (omega arith) h.start h.end

pub with_separator : (t : TokenParts) (n m v : ℕ) (b : Bool) → IsOf n t → v ≡ flag b → Replaces 8 88 n v m
    → Holds m (record t { has_separator = b })
with_separator t n m v b h value put =
    let is : packed t ≡ n = h.is in
    let old : n / 2 ^ 88 % 2 ^ 8 ≡ flag t.has_separator = (places_in n t h).separator_at in
    holds_parts (record t { has_separator = b }) m (omega arith) h.start h.end

pub with_span : (t : TokenParts) (n l m start end : ℕ) → IsOf n t → start < 2 ^ 32 → end < 2 ^ 32
    → Replaces 32 0 n start l → Replaces 32 32 l end m → Holds m (record t { start = start; end = end })
with_span t n l m start end h start_fits end_fits put_start put_end =
    let first = with_start t n l start h start_fits put_start in
    with_end (record t { start = start }) l m end (is_of l (record t { start = start }) first.parts first.only) end_fits
    put_end

-- Equal numbers have equal parts.
pub same_parts : (m n : ℕ) (t u : TokenParts) → unpacked m ≡ t → unpacked n ≡ u → IsPacked m → IsPacked n
    → eqb (packed t) (packed u) ≡ true → t ≡ u
same_parts m n t u first second first_only second_only same =
    sym first
    ∙ ap unpacked
    (sym (is_of m t first first_only).is ∙ eqb-true _ _ same ∙ (is_of n u second second_only).is)
    ∙ second
