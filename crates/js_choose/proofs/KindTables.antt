-- What a table of kinds tells.
use Rattle.std.proofs.Common.{◌≡◌, Bool, false, List, map, sym, ◌∙◌, ap, Some}
use Rattle.std.specs.Option.{option_map}
use Rattle.std.specs.Prelude.{slice_get, slice_index_or}
use Rattle.std.proofs.lemmas.Option.{slice_get-map}
use Rattle.js_kind.specs.Kinds.{number}
use Rattle.js_kind.specs.declared.kind.Kind.{Kind}
use Rattle.js_kind.specs.declared.kind.TheConstants.Kind.{VARIANTS}
use Rattle.js_kind.proofs.KindNumbers.{kind_at_number}
use Rattle.js_choose.specs.KindTables.{TellsKinds}

-- What a test tells of a kind stands at its number in the list of what it tells of all.
at_number : (test : Kind → Bool) (kind : Kind) → slice_get (map test VARIANTS) (number kind) ≡ Some (test kind)
at_number test kind = slice_get-map test VARIANTS (number kind) ∙ ap (option_map test) (kind_at_number kind)

-- A table that tells the same as a test of all kinds, one behind the other, tells it of each.
pub tells_kinds : (test : Kind → Bool) (table : List Bool)
    → map (λ kind. slice_index_or table (number kind) false) VARIANTS ≡ map test VARIANTS → TellsKinds test table
tells_kinds test table all =
    record {
      tells = λ kind.
          let in_table = at_number (λ k. slice_index_or table (number k) false) kind in
          let is = at_number test kind in
          let same : Some (slice_index_or table (number kind) false) ≡ Some (test kind) =
          sym in_table ∙ (ap (λ xs. slice_get xs (number kind)) all ∙ is)
          in cc;
    }
