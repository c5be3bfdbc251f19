-- The numbers of kinds.
use Rattle.std.proofs.Common.{◌≡◌, ℕ, zero, suc, List, [], ◌∷◌, ◌++◌, map, length, get_or, refl, sym, ◌∙◌, ap}
use Rattle.std.proofs.lemmas.Option.{slice_get-map, get_or_from_slice_get}
use Rattle.std.proofs.Math.ListN.{get_or-map, replicate}
use Rattle.std.specs.Prelude.{Some, slice_get}
use Rattle.std.specs.Option.{option_map}
use denote.Enum.Bare.{tag_one}
use denote.Enum.Declared.{tag_of}
use Rattle.js_kind.specs.contracts.kind.Kind.{the_type}
use Rattle.js_kind.specs.declared.kind.Kind.{Kind}
use Rattle.js_kind.specs.declared.kind.Kind.TheVariants as variant
use Rattle.js_kind.specs.declared.kind.TheConstants.Kind.{VARIANTS}
use Rattle.js_kind.specs.declared.kind_rows.Row.{Row}
use Rattle.js_kind.specs.KindRows.{kind_count}
use Rattle.js_kind.specs.Kinds.{number, names_of, row_of, HasEachRow}

-- The code's enum has each kind at the place of its number.
pub tag_is_number : (kind : Kind) → tag_of the_type kind ≡ number kind
tag_is_number variant.Eof = refl
tag_is_number _ = refl

-- Two kinds of one number are one kind.
pub number_injective : (j k : Kind) → number j ≡ number k → j ≡ k
number_injective j k same = tag_one the_type tt j k (tag_is_number j ∙ same ∙ sym (tag_is_number k))

-- Each kind stands at its number.
pub kind_at_number : (kind : Kind) → slice_get VARIANTS (number kind) ≡ Some kind
kind_at_number variant.Eof = refl
kind_at_number _ = refl

-- A list that is filled up with a default has it wherever the list alone has no item.
pub filled : (kinds : List Kind) (n i : ℕ) (d : Kind) → get_or (kinds ++ replicate n d) i d ≡ get_or kinds i d
filled [] zero i d = refl
filled [] (suc n) zero d = refl
filled [] (suc n) (suc i) d = filled [] n i d
filled (k ∷ ks) n zero d = refl
filled (k ∷ ks) n (suc i) d = filled ks n i d

-- A table of the rows of all kinds has each at the place of its number.
pub has_each_row : (rows : List Row) → length rows ≡ kind_count → map row_of rows ≡ map names_of VARIANTS
    → HasEachRow rows
has_each_row rows count all = record {
  count = count;
  at_number = λ kind.
      ap (λ xs. slice_get xs (number kind)) all
      ∙ slice_get-map names_of VARIANTS (number kind)
      ∙ ap (option_map names_of) (kind_at_number kind);
}

-- What such a table has at the number of a kind.
pub row_at : (rows : List Row) (n : ℕ) (kind : Kind) (d : Row) → HasEachRow rows → n ≡ number kind
    → row_of (get_or rows n d) ≡ names_of kind
row_at rows n kind d has is =
    let at : slice_get (map row_of rows) n ≡ Some (names_of kind) =
    ap (slice_get (map row_of rows)) is ∙ has.at_number kind
    in sym (get_or-map row_of rows n d) ∙ get_or_from_slice_get (map row_of rows) n (names_of kind) (row_of d) at
