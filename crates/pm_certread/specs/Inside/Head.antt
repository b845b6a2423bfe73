-- The words of the lines up to the header, and what the code reads of them.
use Rattle.std.specs.Prelude.{◌≡◌, ◌≢◌, ℕ, ◌⊎◌, List, [], ◌∷◌, ◌++◌, Option, None, Some, codes, decimal}
use Rattle.pm_logic.specs.declared.problem.Class.{Class}
use Rattle.pm_logic.specs.declared.problem.Start.{Start}
use Rattle.pm_logic.specs.declared.tableau.BoundKind.{BoundKind}
use Rattle.pm_logic.specs.declared.tableau.BoundKind.TheVariants.{Depth}
use Rattle.pm_certread.specs.declared.levels.Level.{Level}
use Rattle.pm_certread.specs.declared.levels.Level.TheVariants.{Exhausted, Proved}
use Rattle.pm_certread.specs.declared.levels.LevelLine.{LevelLine}
use Rattle.pm_certread.specs.declared.header.Header.{Header as CodeHeader}
use Rattle.pm_certread.specs.declared.header.Version.{Version}
use Rattle.pm_certread.specs.declared.header.Version.TheVariants.{First, Second}
use Rattle.pm_certread.specs.declared.header.Front.{Front}
use Rattle.pm_certread.specs.declared.header.Size.{Size}
use Rattle.pm_certread.specs.declared.header.Counts.{Counts}
use Rattle.pm_certread.specs.Lines.{Header, class_word, start_word, bound_word}
use Rattle.pm_certread.specs.Forms.{IsNumber, IsExhausted, IsProved, IsHeader}

abbrev pub kind_word : Level → List ℕ
kind_word Exhausted = codes "exhausted"
kind_word Proved = codes "proof"

abbrev pub level_words : Level → ℕ → ℕ → List (List ℕ)
level_words kind level work =
    codes "level" ∷ decimal level ∷ kind_word kind ∷ codes "attempts" ∷ decimal work ∷ []

-- the words of a level's line
abbrev pub ReadsLevel : List (List ℕ) → Option LevelLine → Type 0
ReadsLevel words None =
    (kind : Level) (level work : ℕ) → IsNumber level → IsNumber work
    → words ≢ level_words kind level work
ReadsLevel words (Some line) =
    IsNumber line.level × IsNumber line.work
    × (words ≡ level_words line.kind line.level line.work)

-- the line of this level
abbrev pub IsLevelLine : List ℕ → ℕ → Option Level → Type 0
IsLevelLine raw level None = (work : ℕ) → ¬ (IsExhausted raw level work ⊎ IsProved raw level work)
IsLevelLine raw level (Some Exhausted) = (work : ℕ) × IsExhausted raw level work
IsLevelLine raw level (Some Proved) = (work : ℕ) × IsProved raw level work

-- the word of a class, a start rule or a bound, if it is one
abbrev pub ReadsClass : List ℕ → Option Class → Type 0
ReadsClass word None = (class : Class) → word ≢ class_word class
ReadsClass word (Some class) = word ≡ class_word class

abbrev pub ReadsStart : List ℕ → Option Start → Type 0
ReadsStart word None = (start : Start) → word ≢ start_word start
ReadsStart word (Some start) = word ≡ start_word start

abbrev pub ReadsBound : List ℕ → Option BoundKind → Type 0
ReadsBound word None = (bound : BoundKind) → word ≢ bound_word bound
ReadsBound word (Some bound) = word ≡ bound_word bound

abbrev pub version_word : Version → List ℕ
version_word First = codes "1"
version_word Second = codes "2"

-- parmel V class C start S
abbrev pub front_words : Version → Class → Start → List (List ℕ)
front_words version class start =
    codes "parmel" ∷ version_word version ∷ codes "class" ∷ class_word class ∷ codes "start"
    ∷ start_word start ∷ []

abbrev pub ReadsVersion : List ℕ → Option Version → Type 0
ReadsVersion word None = (version : Version) → word ≢ version_word version
ReadsVersion word (Some version) = word ≡ version_word version

abbrev pub ReadsFront : List (List ℕ) → Option Front → Type 0
ReadsFront words None =
    (version : Version) (class : Class) (start : Start) → words ≢ front_words version class start
ReadsFront words (Some front) = words ≡ front_words front.version front.class front.start

-- terms T nodes M
abbrev pub back_words : ℕ → ℕ → List (List ℕ)
back_words terms nodes =
    codes "terms" ∷ decimal terms ∷ codes "nodes" ∷ decimal nodes ∷ []

abbrev pub ReadsCounts : List (List ℕ) → Option Counts → Type 0
ReadsCounts words None =
    (terms nodes : ℕ) → IsNumber terms → IsNumber nodes → words ≢ back_words terms nodes
ReadsCounts words (Some counts) =
    IsNumber counts.terms × IsNumber counts.nodes
    × (words ≡ back_words counts.terms counts.nodes)

-- depth D
abbrev pub depth_words : ℕ → List (List ℕ)
depth_words size = codes "depth" ∷ decimal size ∷ []

abbrev pub ReadsDepth : List (List ℕ) → Option ℕ → Type 0
ReadsDepth words None = (size : ℕ) → IsNumber size → words ≢ depth_words size
ReadsDepth words (Some size) = IsNumber size × (words ≡ depth_words size)

-- bound B size N
abbrev pub bounded_words : BoundKind → ℕ → List (List ℕ)
bounded_words bound size =
    codes "bound" ∷ bound_word bound ∷ codes "size" ∷ decimal size ∷ []

abbrev pub ReadsBounded : List (List ℕ) → Option Size → Type 0
ReadsBounded words None =
    (bound : BoundKind) (size : ℕ) → IsNumber size → words ≢ bounded_words bound size
ReadsBounded words (Some found) =
    IsNumber found.size × (words ≡ bounded_words found.bound found.size)

-- the words between
abbrev pub AreSize : Version → List (List ℕ) → BoundKind → ℕ → Type 0
AreSize First words bound size = IsNumber size × (bound ≡ Depth) × (words ≡ depth_words size)
AreSize Second words bound size = IsNumber size × (words ≡ bounded_words bound size)

abbrev pub ReadsSize : Version → List (List ℕ) → Option Size → Type 0
ReadsSize version words None = (bound : BoundKind) (size : ℕ) → ¬ AreSize version words bound size
ReadsSize version words (Some found) = AreSize version words found.bound found.size

abbrev pub header_of : CodeHeader → Header
header_of header =
    record {
      class = header.class;
      start = header.start;
      bound = header.bound;
      size = header.size;
      terms = header.terms;
      nodes = header.nodes;
    }

-- the words of a header
pub record AreHeader (words : List (List ℕ)) (h : Header) : Type 0 where
  pub version : Version
  pub middle : List (List ℕ)
  pub small_terms : IsNumber h.terms
  pub small_nodes : IsNumber h.nodes
  pub size : AreSize version middle h.bound h.size
  pub is : words ≡ front_words version h.class h.start ++ (middle ++ back_words h.terms h.nodes)

abbrev pub ReadsHeader : List (List ℕ) → Option CodeHeader → Type 0
ReadsHeader words None = (h : Header) → ¬ AreHeader words h
ReadsHeader words (Some header) = AreHeader words (header_of header)

abbrev pub IsHeaderLine : List ℕ → Option CodeHeader → Type 0
IsHeaderLine raw None = (h : Header) → ¬ IsHeader raw h
IsHeaderLine raw (Some header) = IsHeader raw (header_of header)
