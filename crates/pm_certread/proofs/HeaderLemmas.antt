-- The lines of headers.
use Rattle.std.proofs.Common.{◌≡◌, ◌∙◌, ◌⊎◌, inl, inr, ℕ, List, ◌++◌, Option, Some, None, Bor, ap, refl, codes}
use Rattle.pm_logic.specs.declared.problem.Class.{Class}
use Rattle.pm_logic.specs.declared.problem.Class.TheVariants.{Plain, Regular}
use Rattle.pm_logic.specs.declared.problem.Start.{Start}
use Rattle.pm_logic.specs.declared.problem.Start.TheVariants.{Negative, All as Every, Goal}
use Rattle.pm_logic.specs.declared.tableau.BoundKind.{BoundKind}
use Rattle.pm_logic.specs.declared.tableau.BoundKind.TheVariants.{Depth, Inferences}
use Rattle.pm_certread.specs.declared.header.Header.{Header as CodeHeader}
use Rattle.pm_certread.specs.declared.header.Version.{Version}
use Rattle.pm_certread.specs.declared.header.Version.TheVariants.{First, Second}
use Rattle.pm_certread.specs.Lines.{Header, ended, class_word, start_word, bound_word, header_line_1, header_line_2}
use Rattle.pm_certread.specs.Forms.{IsNumber, IsHeader}
use Rattle.pm_certread.specs.Inside.Wholes.{AreWhole, IsWhole}
use Rattle.pm_certread.specs.Inside.Cuts.{IsCut, bytes_of}
use Rattle.pm_certread.specs.Inside.Head.{AreHeader, AreSize, IsHeaderLine, ReadsHeader, back_words, bounded_words, depth_words, front_words, version_word, header_of}
use Rattle.pm_certread.proofs.WordLemmas.{solid_whole, decimal_whole, whole_append}
use Rattle.pm_certread.proofs.FormLemmas.{cut_is, is_cut}

class_whole : (class : Class) → IsWhole (class_word class)
class_whole Plain = solid_whole (codes "plain") refl
class_whole Regular = solid_whole (codes "regular") refl

start_whole : (start : Start) → IsWhole (start_word start)
start_whole Negative = solid_whole (codes "negative") refl
start_whole Every = solid_whole (codes "all") refl
start_whole Goal = solid_whole (codes "goal") refl

bound_whole : (bound : BoundKind) → IsWhole (bound_word bound)
bound_whole Depth = solid_whole (codes "depth") refl
bound_whole Inferences = solid_whole (codes "inferences") refl

version_whole : (version : Version) → IsWhole (version_word version)
version_whole First = solid_whole (codes "1") refl
version_whole Second = solid_whole (codes "2") refl

front_whole : (version : Version) (class : Class) (start : Start) → AreWhole (front_words version class start)
front_whole version class start =
    (solid_whole (codes "parmel") refl, (version_whole version, (solid_whole (codes "class") refl, (class_whole class, (solid_whole (codes "start") refl, (start_whole start, tt))))))

back_whole : (terms nodes : ℕ) → IsNumber terms → IsNumber nodes → AreWhole (back_words terms nodes)
back_whole terms nodes small few = (solid_whole (codes "terms") refl, (decimal_whole terms small, (solid_whole (codes "nodes") refl, (decimal_whole nodes few, tt))))

pub depth_whole : (size : ℕ) → IsNumber size → AreWhole (depth_words size)
depth_whole size small = (solid_whole (codes "depth") refl, (decimal_whole size small, tt))

pub bounded_whole : (bound : BoundKind) (size : ℕ) → IsNumber size → AreWhole (bounded_words bound size)
bounded_whole bound size small = (solid_whole (codes "bound") refl, (bound_whole bound, (solid_whole (codes "size") refl, (decimal_whole size small, tt))))

pub header_whole : (version : Version) (middle : List (List ℕ)) (h : Header) → AreWhole middle → IsNumber h.terms → IsNumber h.nodes
    → AreWhole (front_words version h.class h.start ++ (middle ++ back_words h.terms h.nodes))
header_whole version middle h whole small few =
    whole_append (front_words version h.class h.start) (middle ++ back_words h.terms h.nodes) (front_whole version h.class h.start)
    (whole_append middle (back_words h.terms h.nodes) whole (back_whole h.terms h.nodes small few))

pub header_words : (raw : List ℕ) (words : List (Bor (List ℕ))) (h : Header) → IsCut raw (Some words) → IsHeader raw h → AreHeader (bytes_of words) h
header_words raw words h cut is = go is.is
  where
    go : ((h.bound ≡ Depth) × (raw ≡ ended (header_line_1 h))) ⊎ (raw ≡ ended (header_line_2 h)) → AreHeader (bytes_of words) h
    go (inl first) = record {
      version = First;
      middle = depth_words h.size;
      small_terms = is.terms;
      small_nodes = is.nodes;
      size = (is.size, first.0, refl);
      is = is_cut raw words cut _ _ (header_whole First (depth_words h.size) h (depth_whole h.size is.size) is.terms is.nodes) first.1;
    }
    go (inr second) = record {
      version = Second;
      middle = bounded_words h.bound h.size;
      small_terms = is.terms;
      small_nodes = is.nodes;
      size = (is.size, refl);
      is = is_cut raw words cut _ _ (header_whole Second (bounded_words h.bound h.size) h (bounded_whole h.bound h.size is.size) is.terms is.nodes) second;
    }

pub no_header : (raw : List ℕ) (h : Header) → IsCut raw None → IsHeader raw h → ⊥
no_header raw h uncut is = go is.is
  where
    go : ((h.bound ≡ Depth) × (raw ≡ ended (header_line_1 h))) ⊎ (raw ≡ ended (header_line_2 h)) → ⊥
    go (inl first) = uncut (header_line_1 h) first.1
    go (inr second) = uncut (header_line_2 h) second

is_header : (raw : List ℕ) (words : List (Bor (List ℕ))) (h : Header) → IsCut raw (Some words) → AreHeader (bytes_of words) h → IsHeader raw h
is_header raw words h cut are = go are.version are.size are.is
  where
    go : (version : Version) → AreSize version are.middle h.bound h.size
        → bytes_of words ≡ front_words version h.class h.start ++ (are.middle ++ back_words h.terms h.nodes) → IsHeader raw h
    go First size is = record {
      size = size.0;
      terms = are.small_terms;
      nodes = are.small_nodes;
      is = inl (size.1, cut_is raw words cut _ (is ∙ ap (λ (m : List (List ℕ)). front_words First h.class h.start ++ (m ++ back_words h.terms h.nodes)) size.2));
    }
    go Second size is = record {
      size = size.0;
      terms = are.small_terms;
      nodes = are.small_nodes;
      is = inr (cut_is raw words cut _ (is ∙ ap (λ (m : List (List ℕ)). front_words Second h.class h.start ++ (m ++ back_words h.terms h.nodes)) size.1));
    }

pub header_line_is : (raw : List ℕ) (words : List (Bor (List ℕ))) (o : Option CodeHeader) → IsCut raw (Some words) → ReadsHeader (bytes_of words) o → IsHeaderLine raw o
header_line_is raw words None cut none = λ h is. none h (header_words raw words h cut is)
header_line_is raw words (Some header) cut some = is_header raw words (header_of header) cut some
