-- The licences of sources: which comments hold one, and what is collected of them.
use Rattle.std.specs.Prelude.{◌≡◌, ℕ, ◌+◌, Bool, true, false, not, List, [], ◌∷◌, ◌++◌, bytes_eq, encode_utf8_all, filter}
use Rattle.std.specs.Prelude.{fold, map, if◌then◌else◌}
use Rattle.js_choose.specs.Rules.{ReportBy, Rule}
use Rattle.js_lines.specs.Lines.{position_of}
use Rattle.js_lines.specs.declared.columns.ColumnUnit.TheVariants.{Bytes}
use Rattle.js_lines.specs.declared.line_ends.LineEnds.TheVariants.{EcmaScript}
use Rattle.js_session.specs.declared.command.Command.{Command}
use Rattle.js_session.specs.declared.report.Report.{Report}
use Rattle.js_text.specs.declared.comment.Comment.{Comment}
use Rattle.js_text.specs.declared.comment.CommentContent.{CommentContent}
use Rattle.js_text.specs.declared.comment.CommentContent.TheVariants.{None, Legal, Jsdoc, JsdocLegal, Pure}
use Rattle.js_text.specs.declared.comment.CommentContent.TheVariants.{PureNotApplied, NoSideEffects}
use Rattle.js_text.specs.declared.comment.CommentContent.TheVariants.{NoSideEffectsNotApplied, Webpack, Vite}
use Rattle.js_text.specs.declared.comment.CommentContent.TheVariants.{CoverageIgnore, CoverageIgnoreFile, Turbopack}
use Rattle.js_text.specs.declared.comment.CommentContent.TheVariants.{PropertyKey}
use Rattle.js_text.specs.declared.source_type.SourceType.{SourceType}
use Rattle.js_totsenak.specs.Stretches.{characters_between}
use Rattle.js_licences.specs.declared.licences.Licence.{Licence}
use Rattle.js_licences.specs.declared.licences.Place.{Place}

-- the classes of comments that hold a licence
abbrev pub holds_licence : CommentContent → Bool
holds_licence None = false
holds_licence Legal = true
holds_licence Jsdoc = false
holds_licence JsdocLegal = true
holds_licence Pure = false
holds_licence PureNotApplied = false
holds_licence NoSideEffects = false
holds_licence NoSideEffectsNotApplied = false
holds_licence Webpack = false
holds_licence Vite = false
holds_licence CoverageIgnore = false
holds_licence CoverageIgnoreFile = false
holds_licence Turbopack = false
holds_licence PropertyKey = false

-- A comment that holds a licence: its text, and where it stands.
pub record Occurrence : Type 0 where
  pub text : List ℕ
  pub place : Place

-- the line of an offset, counted from 1
abbrev pub line_at : List ℕ → ℕ → ℕ
line_at source offset = (position_of EcmaScript Bytes source offset).line + 1

-- a comment of a source with a name, as it is collected
abbrev pub occurrence_of : List ℕ → List ℕ → Comment → Occurrence
occurrence_of name source comment = record {
  text = encode_utf8_all (characters_between source comment.span.start comment.span.end);
  place = record { name = name; line = line_at source comment.span.start };
}

-- the comments that hold a licence, in order
abbrev pub occurrences : List ℕ → List ℕ → List Comment → List Occurrence
occurrences name source comments =
    map (occurrence_of name source) (filter (λ (comment : Comment). holds_licence comment.content) comments)

-- The text of a licence, and the places where it stands.
pub record LicenceOf : Type 0 where
  pub text : List ℕ
  pub places : List Place

-- the licences with one more comment: its place comes behind those of its text, and a text that is new comes last
abbrev pub with_occurrence : List LicenceOf → Occurrence → List LicenceOf
with_occurrence [] x = record { text = x.text; places = x.place ∷ [] } ∷ []
with_occurrence (licence ∷ licences) x =
    if bytes_eq x.text licence.text then record licence { places = licence.places ++ x.place ∷ [] } ∷ licences
    else licence ∷ with_occurrence licences x

-- the licences with more comments, one behind the other
abbrev pub with_occurrences : List LicenceOf → List Occurrence → List LicenceOf
with_occurrences licences xs = fold with_occurrence licences xs

-- the places of the comments with a text, in order
abbrev pub places_of : List ℕ → List Occurrence → List Place
places_of text [] = []
places_of text (x ∷ xs) = if bytes_eq x.text text then x.place ∷ places_of text xs else places_of text xs

-- the comments with another text
abbrev pub without_text : List ℕ → List Occurrence → List Occurrence
without_text text xs = filter (λ (x : Occurrence). not (bytes_eq x.text text)) xs

-- These are the licences of the comments: that of the first comment, with all places of its text, and then those of the
-- comments with another text. So each text comes once, in the order in which the texts first come.
abbrev pub AreLicencesOf : List Occurrence → List LicenceOf → Type 0
AreLicencesOf xs [] = xs ≡ []
AreLicencesOf [] (licence ∷ licences) = ⊥
AreLicencesOf (x ∷ xs) (licence ∷ licences) =
    (licence.text ≡ x.text) × (licence.places ≡ x.place ∷ places_of x.text xs)
    × AreLicencesOf (without_text x.text xs) licences

-- The licences of a source with a name were added: those of the live comments of its report, whose goals the rule
-- chooses.
pub record AddsLicences (rule : Rule) (name source : List ℕ) (t : SourceType) (old new : List LicenceOf) : Type 0 where
  pub commands : List Command
  pub report : Report
  pub report_is : ReportBy rule source t false commands report
  pub added : new ≡ with_occurrences old (occurrences name source report.comments)

-- Some licences were added, and none was lost.
pub record AddsSome (old new : List LicenceOf) : Type 0 where
  pub some : List Occurrence
  pub added : new ≡ with_occurrences old some

-- the entries of a map from texts to their places, as licences
abbrev pub licences_in : {S : Type 0} (bytes : S → List ℕ) → List (S × List Place) → List LicenceOf
licences_in {S} bytes entries = map (λ (entry : S × List Place). record { text = bytes entry.0; places = entry.1 }) entries

-- a licence as it is handed out
abbrev pub licence_seen : Licence → LicenceOf
licence_seen licence = record { text = licence.text.now; places = licence.places.now }
