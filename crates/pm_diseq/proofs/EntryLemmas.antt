-- Entries that are added and taken away.
use Rattle.std.proofs.Common.{◌≡◌, ℕ, zero, suc, ◌+◌, ◌-◌, ◌<◌, ◌≤◌, inl, inr, List, [], ◌∷◌, ◌++◌, Option, Some, None, length, map, take, drop, get_or, set, slice_get, refl, sym, ◌∙◌, ap, ap₂, subst, arith}
use Rattle.std.specs.Prelude.{All, AllPairs}
use Rattle.std.proofs.lemmas.Bool.{cases_lt, cases_eq}
use Rattle.std.proofs.lemmas.List.{append_assoc, map-append, length-append, length-drop, length-map, length_push, length-take-le, take-append-le, take-append-drop, take_all, drop-append-le, get_or-set_same, get_or-set_other, get_or_past, get_or_read, take_at, drop_at, get_or_append_left, get_or_push}
use Rattle.std.proofs.lemmas.List.Elements.{All-head, All-tail, All-push, All-weaker}
use Rattle.std.proofs.lemmas.List.Quantifiers.{all_pairs_push}
use Rattle.std.specs.Prelude.{replicate}
use Rattle.std.specs.Option.{option_map}
use Rattle.std.proofs.lemmas.Option.{slice_get_within, slice_get_read, slice_get-map, same_Some, none-some}
use Rattle.pm_store.proofs.ListLemmas.{All-left, All-last, slice_get-append, slice_get-last, slice_get-push}
use Rattle.pm_diseq.specs.declared.entries.Span.{Span}
use Rattle.pm_diseq.specs.declared.entries.Entry.{Entry}
use Rattle.pm_diseq.specs.declared.entries.Entry.TheVariants.{Keep, Wait}
use Rattle.pm_diseq.specs.Notes.{Pair, Note, Kept, Waits, as_pair}
use Rattle.pm_diseq.specs.Inside.Entries.{pair_in, note_in, notes_of, span_in, end_of_pair, variable_in, LiesBefore, IsNewest, AreHeld}
use Rattle.pm_diseq.specs.Inside.Waiting.{noted_pair, pair_at, watched, IsPlaceOf}
use Rattle.pm_diseq.proofs.PoolLemmas.{pair_at-note}

-- what stands in the front of a list
pub slice_get-front : {A : Type 0} (xs ys : List A) (k : ℕ) → k < length xs → slice_get (xs ++ ys) k ≡ slice_get xs k
slice_get-front [] ys k less = absurd (omega (arith, less))
slice_get-front (x ∷ xs) ys zero less = refl
slice_get-front (x ∷ xs) ys (suc k) less = slice_get-front xs ys k (omega (arith, less))

-- the newest place is the same in a longer list
pub newest_more : (ws us : List (Option ℕ)) (end v : ℕ) (o : Option ℕ) → end ≤ length ws → IsNewest ws end v o → IsNewest (ws ++ us) end v o
newest_more ws us end v None within newest =
    λ k less is. newest k less (sym (slice_get-front ws us k (omega (arith, less, within))) ∙ is)
newest_more ws us end v (Some place) within newest = (
  newest.0,
  slice_get-append ws us place (Some v) newest.1,
  λ k above less is. newest.2 k above less (sym (slice_get-front ws us k (omega (arith, less, within))) ∙ is),
)

newest_less : (ws us : List (Option ℕ)) (end v : ℕ) (o : Option ℕ) → end ≤ length ws → IsNewest (ws ++ us) end v o → IsNewest ws end v o
newest_less ws us end v None within newest = λ k less is. newest k less (slice_get-append ws us k (Some v) is)
newest_less ws us end v (Some place) within newest = (
  newest.0,
  sym (slice_get-front ws us place (omega (arith, newest.0, within))) ∙ newest.1,
  λ k above less is. newest.2 k above less (slice_get-append ws us k (Some v) is),
)

-- an entry that waits at no variable, or at another one
newest_other : (ws : List (Option ℕ)) (w : Option ℕ) (end end' v : ℕ) (o : Option ℕ) → end ≡ length ws → end' ≡ end + 1 → (w ≡ Some v → ⊥)
    → IsNewest ws end v o → IsNewest (ws ++ w ∷ []) end' v o
newest_other ws w end end' v None count more other newest = λ k less is.
    elim (slice_get-push ws w k (Some v) is) [
      | inl before ↦ newest k (omega (arith, count, slice_get_within ws k (Some v) before)) before
      | inr last ↦ other last.1
    ]
newest_other ws w end end' v (Some place) count more other newest = (
  omega (arith, newest.0, more),
  slice_get-append ws (w ∷ []) place (Some v) newest.1,
  λ k above less is. elim (slice_get-push ws w k (Some v) is) [
    | inl before ↦ newest.2 k above (omega (arith, count, slice_get_within ws k (Some v) before)) before
    | inr last ↦ other last.1
  ],
)

newest_popped : (ws : List (Option ℕ)) (w : Option ℕ) (end end' v : ℕ) (o : Option ℕ) → end ≡ length ws → end' ≡ end + 1 → (w ≡ Some v → ⊥)
    → IsNewest (ws ++ w ∷ []) end' v o → IsNewest ws end v o
newest_popped ws w end end' v None count more other newest = λ k less is.
    newest k (omega (arith, less, more)) (slice_get-append ws (w ∷ []) k (Some v) is)
newest_popped ws w end end' v (Some place) count more other newest =
    elim (slice_get-push ws w place (Some v) newest.1) [
      | inl before ↦ (
        omega (arith, count, slice_get_within ws place (Some v) before),
        before,
        λ k above less is. newest.2 k above (omega (arith, less, more)) (slice_get-append ws (w ∷ []) k (Some v) is),
      )
      | inr last ↦ absurd (other last.1)
    ]

newest_pushed : (ws : List (Option ℕ)) (end end' v : ℕ) → end ≡ length ws → end' ≡ end + 1 → IsNewest (ws ++ Some v ∷ []) end' v (Some end)
newest_pushed ws end end' v count more = (
  omega (arith, more),
  ap (slice_get (ws ++ Some v ∷ [])) count ∙ slice_get-last ws (Some v),
  λ k above less is. absurd (omega (arith, above, less, more)),
)

-- the variables at which entries wait, with one more entry
variables-push : (log : List Entry) (entry : Entry) → map variable_in (log ++ entry ∷ []) ≡ map variable_in log ++ variable_in entry ∷ []
variables-push log entry = map-append variable_in log (entry ∷ [])

counted : (log : List Entry) → length log ≡ length (map variable_in log)
counted log = sym (length-map log variable_in)

-- what is linked stays linked with one more entry, if that one is
linked_push : (log : List Entry) (entry : Entry)
    → ((place : ℕ) (span : Span) (v : ℕ) (previous : Option ℕ) → slice_get log place ≡ Some (Wait span v previous) → IsNewest (map variable_in log) place v previous)
    → ((span : Span) (v : ℕ) (previous : Option ℕ) → entry ≡ Wait span v previous → IsNewest (map variable_in log) (length log) v previous)
    → (place : ℕ) (span : Span) (v : ℕ) (previous : Option ℕ) → slice_get (log ++ entry ∷ []) place ≡ Some (Wait span v previous)
    → IsNewest (map variable_in (log ++ entry ∷ [])) place v previous
linked_push log entry linked last_linked place span v previous is =
    subst (λ (ws : List (Option ℕ)). IsNewest ws place v previous) (sym (variables-push log entry))
    (elim (slice_get-push log entry place (Wait span v previous) is) [
      | inl before ↦ newest_more (map variable_in log) (variable_in entry ∷ []) place v previous
          (omega (arith, counted log, slice_get_within log place (Wait span v previous) before)) (linked place span v previous before)
      | inr last ↦ newest_more (map variable_in log) (variable_in entry ∷ []) place v previous (omega (arith, counted log, last.0))
          (subst (λ (end : ℕ). IsNewest (map variable_in log) end v previous) (sym last.0) (last_linked span v previous last.1))
    ])

linked_pop : (log : List Entry) (entry : Entry)
    → ((place : ℕ) (span : Span) (v : ℕ) (previous : Option ℕ) → slice_get (log ++ entry ∷ []) place ≡ Some (Wait span v previous)
    → IsNewest (map variable_in (log ++ entry ∷ [])) place v previous)
    → (place : ℕ) (span : Span) (v : ℕ) (previous : Option ℕ) → slice_get log place ≡ Some (Wait span v previous) → IsNewest (map variable_in log) place v previous
linked_pop log entry linked place span v previous is =
    newest_less (map variable_in log) (variable_in entry ∷ []) place v previous
    (omega (arith, counted log, slice_get_within log place (Wait span v previous) is))
    (subst (λ (ws : List (Option ℕ)). IsNewest ws place v previous) (variables-push log entry)
    (linked place span v previous (slice_get-append log (entry ∷ []) place (Wait span v previous) is)))

-- the newest places of all variables, once an entry waits at this one
known_wait : (log : List Entry) (newest : List (Option ℕ)) (span : Span) (v : ℕ) (previous : Option ℕ) → v < length newest
    → ((u : ℕ) → IsNewest (map variable_in log) (length log) u (get_or newest u None))
    → (u : ℕ) → IsNewest (map variable_in (log ++ Wait span v previous ∷ [])) (length (log ++ Wait span v previous ∷ [])) u (get_or (set newest v (Some (length log))) u None)
known_wait log newest span v previous within known u =
    let ws = map variable_in log in
    let entry : Entry = Wait span v previous in
    subst (λ (vs : List (Option ℕ)). IsNewest vs (length (log ++ entry ∷ [])) u (get_or (set newest v (Some (length log))) u None)) (sym (variables-push log entry))
    (elim (cases_eq u v) [
      | inl same ↦ subst (λ (o : Option ℕ). IsNewest (ws ++ Some v ∷ []) (length (log ++ entry ∷ [])) u o)
          (sym (ap (λ k. get_or (set newest v (Some (length log))) k None) same ∙ get_or-set_same newest v (Some (length log)) None within))
          (subst (λ (k : ℕ). IsNewest (ws ++ Some v ∷ []) (length (log ++ entry ∷ [])) k (Some (length log))) (sym same)
          (newest_pushed ws (length log) (length (log ++ entry ∷ [])) v (counted log) (length_push log entry)))
      | inr other ↦ subst (λ (o : Option ℕ). IsNewest (ws ++ Some v ∷ []) (length (log ++ entry ∷ [])) u o)
          (sym (get_or-set_other newest v u (Some (length log)) None other))
          (newest_other ws (Some v) (length log) (length (log ++ entry ∷ [])) u (get_or newest u None) (counted log) (length_push log entry)
          (λ is. other (inside v u is)) (known u))
    ])
  where
    inside : (m n : ℕ) → Some m ≡ Some n → n ≡ m
    inside m n e = cc

-- so once the entry is taken away again
unknown_wait : (log : List Entry) (newest : List (Option ℕ)) (span : Span) (v : ℕ) (previous : Option ℕ) → v < length newest
    → ((u : ℕ) → IsNewest (map variable_in (log ++ Wait span v previous ∷ [])) (length (log ++ Wait span v previous ∷ [])) u (get_or newest u None))
    → IsNewest (map variable_in log) (length log) v previous
    → (u : ℕ) → IsNewest (map variable_in log) (length log) u (get_or (set newest v previous) u None)
unknown_wait log newest span v previous within known before u =
    let ws = map variable_in log in
    let entry : Entry = Wait span v previous in
    elim (cases_eq u v) [
      | inl same ↦ subst (λ (o : Option ℕ). IsNewest ws (length log) u o)
          (sym (ap (λ k. get_or (set newest v previous) k None) same ∙ get_or-set_same newest v previous None within))
          (subst (λ (k : ℕ). IsNewest ws (length log) k previous) (sym same) before)
      | inr other ↦ subst (λ (o : Option ℕ). IsNewest ws (length log) u o) (sym (get_or-set_other newest v u previous None other))
          (newest_popped ws (Some v) (length log) (length (log ++ entry ∷ [])) u (get_or newest u None) (counted log) (length_push log entry)
          (λ is. other (inside v u is))
          (subst (λ (vs : List (Option ℕ)). IsNewest vs (length (log ++ entry ∷ [])) u (get_or newest u None)) (variables-push log entry) (known u)))
    ]
  where
    inside : (m n : ℕ) → Some m ≡ Some n → n ≡ m
    inside m n e = cc

pub held_wait : (cells : List ℕ) (log : List Entry) (newest : List (Option ℕ)) (span : Span) (v : ℕ) → AreHeld cells log newest
    → span.start + span.count + span.count ≤ length cells → v < length newest
    → AreHeld cells (log ++ Wait span v (get_or newest v None) ∷ []) (set newest v (Some (length log)))
held_wait cells log newest span v held ends within' = record {
  within = All-push (λ e. end_of_pair e ≤ length cells) log (Wait span v (get_or newest v None)) held.within ends;
  laid = all_pairs_push LiesBefore log (Wait span v (get_or newest v None)) held.laid (λ k d less. tt);
  linked = linked_push log (Wait span v (get_or newest v None)) held.linked
      (λ span' u previous is. subst (λ (e : Entry). IsLinked e) is (held.known v));
  known = known_wait log newest span v (get_or newest v None) within' held.known;
}
  where
    IsLinked : Entry → Type 0
    IsLinked (Keep s) = Unit {0}
    IsLinked (Wait s u previous) = IsNewest (map variable_in log) (length log) u previous

-- more room for the newest places changes none of them
get_or-none : (n v : ℕ) → let none : Option ℕ = None in get_or (replicate n none) v none ≡ none
get_or-none zero v = refl
get_or-none (suc n) zero = refl
get_or-none (suc n) (suc v) = get_or-none n v

pub get_or-room : (newest : List (Option ℕ)) (n v : ℕ) → get_or (newest ++ replicate n None) v None ≡ get_or newest v None
get_or-room [] n v = get_or-none n v
get_or-room (o ∷ newest) n zero = refl
get_or-room (o ∷ newest) n (suc v) = get_or-room newest n v

pub held_room : (cells : List ℕ) (log : List Entry) (newest newest' : List (Option ℕ)) → AreHeld cells log newest
    → ((v : ℕ) → get_or newest' v None ≡ get_or newest v None) → AreHeld cells log newest'
held_room cells log newest newest' held same = record {
  within = held.within;
  laid = held.laid;
  linked = held.linked;
  known = λ v. subst (IsNewest (map variable_in log) (length log) v) (sym (same v)) (held.known v);
}

-- an entry is gone from the end
laid_front : (log : List Entry) (entry : Entry) → AllPairs LiesBefore (log ++ entry ∷ []) → AllPairs LiesBefore log
laid_front log entry laid i j d less within =
    let both = laid i j d less (omega (arith, within, length_push log entry)) in
    subst (λ (e : Entry). LiesBefore e (get_or log j d)) (get_or_append_left log (entry ∷ []) d i (omega (arith, less, within)))
    (subst (λ (e : Entry). LiesBefore (get_or (log ++ entry ∷ []) i d) e) (get_or_append_left log (entry ∷ []) d j within) both)

taken_wait : (cells : List ℕ) (log : List Entry) (newest : List (Option ℕ)) (span : Span) (v : ℕ) (previous : Option ℕ) → AreHeld cells (log ++ Wait span v previous ∷ []) newest
    → (v < length newest) × AreHeld cells log (set newest v previous)
taken_wait cells log newest span v previous held = (
  room,
  record {
    within = All-left (λ e. end_of_pair e ≤ length cells) log (Wait span v previous ∷ []) held.within;
    laid = laid_front log (Wait span v previous) held.laid;
    linked = linked_pop log (Wait span v previous) held.linked;
    known = unknown_wait log newest span v previous room held.known linked_last;
  },
)
  where
    room : v < length newest
    room = elim (cases_lt v (length newest)) [
      | inl less ↦ less
      | inr past ↦
          let none : IsNewest (map variable_in (log ++ Wait span v previous ∷ [])) (length (log ++ Wait span v previous ∷ [])) v None =
          subst (IsNewest (map variable_in (log ++ Wait span v previous ∷ [])) (length (log ++ Wait span v previous ∷ [])) v) (get_or_past newest v None past) (held.known v) in
          absurd (none (length log) (omega (arith, length_push log (Wait span v previous)))
          (slice_get-map variable_in (log ++ Wait span v previous ∷ []) (length log) ∙ ap (option_map variable_in) (slice_get-last log (Wait span v previous))))
    ]

    linked_last : IsNewest (map variable_in log) (length log) v previous
    linked_last =
        newest_less (map variable_in log) (Some v ∷ []) (length log) v previous (omega (arith, counted log))
        (subst (λ (ws : List (Option ℕ)). IsNewest ws (length log) v previous) (variables-push log (Wait span v previous))
        (held.linked (length log) span v previous (slice_get-last log (Wait span v previous))))

pub popped_wait : (cells : List ℕ) (log rest : List Entry) (newest : List (Option ℕ)) (entry : Entry) (span : Span) (v : ℕ) (previous : Option ℕ) → AreHeld cells log newest
    → log ≡ rest ++ entry ∷ [] → entry ≡ Wait span v previous → (v < length newest) × AreHeld cells rest (set newest v previous)
popped_wait cells log rest newest entry span v previous held is waits =
    taken_wait cells rest newest span v previous (subst (λ (es : List Entry). AreHeld cells es newest) (is ∙ ap (λ e. rest ++ e ∷ []) waits) held)

-- pairs lie where they lay when cells were added behind them
part_kept : (cells more : List ℕ) (start count : ℕ) → start + count ≤ length cells → take count (drop start (cells ++ more)) ≡ take count (drop start cells)
part_kept cells more start count within =
    ap (take count) (drop-append-le start cells more (omega (arith, within)))
    ∙ take-append-le count (drop start cells) more (omega (arith, within, length-drop start cells))

note_kept : (cells more : List ℕ) (entry : Entry) → end_of_pair entry ≤ length cells → note_in (cells ++ more) entry ≡ note_in cells entry
note_kept cells more (Keep span) within =
    ap₂ (λ left right. Kept (as_pair left right)) (part_kept cells more span.start span.count (omega (arith, within)))
    (part_kept cells more (span.start + span.count) span.count within)
note_kept cells more (Wait span v previous) within =
    ap₂ (λ left right. Waits (as_pair left right) v) (part_kept cells more span.start span.count (omega (arith, within)))
    (part_kept cells more (span.start + span.count) span.count within)

notes_kept : (cells more : List ℕ) (log : List Entry) → All (λ e. end_of_pair e ≤ length cells) log → notes_of (cells ++ more) log ≡ notes_of cells log
notes_kept cells more [] within = refl
notes_kept cells more (entry ∷ log) within =
    ap₂ (λ note notes. note ∷ notes) (note_kept cells more entry (All-head (λ e. end_of_pair e ≤ length cells) entry log within))
    (notes_kept cells more log (All-tail (λ e. end_of_pair e ≤ length cells) entry log within))

-- all but the newest note
pub notes_popped : (cells : List ℕ) (log rest : List Entry) (entry : Entry) (pool : List Note) → log ≡ rest ++ entry ∷ [] → pool ≡ notes_of cells log
    → take (length pool - 1) pool ≡ notes_of cells rest
notes_popped cells log rest entry pool is held =
    let parts : pool ≡ notes_of cells rest ++ note_in cells entry ∷ [] = held ∙ ap (notes_of cells) is ∙ map-append (note_in cells) rest (entry ∷ []) in
    ap₂ take (ap (λ (notes : List Note). length notes - 1) parts) parts
    ∙ take_at (notes_of cells rest) (note_in cells entry ∷ []) (length (notes_of cells rest ++ note_in cells entry ∷ []) - 1) (omega (arith, length_push (notes_of cells rest) (note_in cells entry)))

-- the newest entry keeps a pair, and is taken away with its cells
taken_keep : (cells : List ℕ) (log : List Entry) (newest : List (Option ℕ)) (span : Span) → AreHeld cells (log ++ Keep span ∷ []) newest
    → AreHeld (take span.start cells) log newest × (notes_of (take span.start cells) log ≡ notes_of cells log)
taken_keep cells log newest span held = (
  record {
    within = shorter;
    laid = laid_front log (Keep span) held.laid;
    linked = linked_pop log (Keep span) held.linked;
    known = λ u. newest_popped (map variable_in log) None (length log) (length (log ++ Keep span ∷ [])) u (get_or newest u None) (counted log) (length_push log (Keep span))
        (λ is. none-some u is)
        (subst (λ (ws : List (Option ℕ)). IsNewest ws (length (log ++ Keep span ∷ [])) u (get_or newest u None)) (variables-push log (Keep span)) (held.known u));
  },
  sym (ap (λ cs. notes_of cs log) (sym (take-append-drop span.start cells)) ∙ notes_kept (take span.start cells) (drop span.start cells) log shorter),
)
  where
    ends : span.start + span.count + span.count ≤ length cells
    ends = All-last (λ e. end_of_pair e ≤ length cells) log (Keep span) held.within

    start : length (take span.start cells) ≡ span.start
    start = length-take-le span.start cells (omega (arith, ends))

    shorter : All (λ e. end_of_pair e ≤ length (take span.start cells)) log
    shorter = λ k d within.
        let before : LiesBefore (get_or (log ++ Keep span ∷ []) k d) (get_or (log ++ Keep span ∷ []) (length log) d) = held.laid k (length log) d within (omega (arith, length_push log (Keep span))) in
        let ends_before : end_of_pair (get_or log k d) ≤ span.start =
        subst (λ (e : Entry). LiesBefore e (Keep span)) (get_or_append_left log (Keep span ∷ []) d k within)
        (subst (LiesBefore (get_or (log ++ Keep span ∷ []) k d)) (get_or_push log (Keep span) d (length log) refl) before) in
        omega (arith, ends_before, start)

pub popped_keep : (cells cells' : List ℕ) (log rest : List Entry) (newest : List (Option ℕ)) (entry : Entry) (span : Span) → AreHeld cells log newest
    → log ≡ rest ++ entry ∷ [] → entry ≡ Keep span → cells' ≡ take span.start cells
    → AreHeld cells' rest newest × (notes_of cells' rest ≡ notes_of cells rest)
popped_keep cells cells' log rest newest entry span held is keeps cut =
    subst (λ (cs : List ℕ). AreHeld cs rest newest × (notes_of cs rest ≡ notes_of cells rest)) (sym cut)
    (taken_keep cells rest newest span (subst (λ (es : List Entry). AreHeld cells es newest) (is ∙ ap (λ e. rest ++ e ∷ []) keeps) held))

-- a new pair is kept behind the others
module _ (cells left right : List ℕ) (log : List Entry) (newest : List (Option ℕ)) (held : AreHeld cells log newest) (count : length left ≡ length right) (span : Span)
    (starts : span.start ≡ length cells) (counts : span.count ≡ length left) where
  grown_length : length ((cells ++ left) ++ right) ≡ span.start + span.count + span.count
  grown_length = omega (arith, length-append (cells ++ left) right, length-append cells left, count, starts, counts)

  pair_begun : pair_in ((cells ++ left) ++ right) span ≡ as_pair left right
  pair_begun =
      ap₂ as_pair
      (ap (λ (cs : List ℕ). take span.count (drop span.start cs)) (append_assoc cells left right) ∙ ap (take span.count) (drop_at cells (left ++ right) span.start (sym starts)) ∙ take_at left right span.count (sym counts))
      (ap (take span.count) (drop_at (cells ++ left) right (span.start + span.count) (omega (arith, length-append cells left, starts, counts))) ∙ take_all span.count right (omega (arith, count, counts)))

  pub begun_held : AreHeld ((cells ++ left) ++ right) (log ++ Keep span ∷ []) newest
  begun_held = record {
    within = All-push (λ e. end_of_pair e ≤ length ((cells ++ left) ++ right)) log (Keep span)
        (All-weaker (λ e. end_of_pair e ≤ length cells) (λ e. end_of_pair e ≤ length ((cells ++ left) ++ right)) (λ e ends. omega (arith, ends, grown_length, starts)) log held.within)
        (omega (arith, grown_length));
    laid = all_pairs_push LiesBefore log (Keep span) held.laid (λ k d within. omega (arith, held.within k d within, starts));
    linked = linked_push log (Keep span) held.linked (λ span' v previous is. absurd cc);
    known = λ u. subst (λ (ws : List (Option ℕ)). IsNewest ws (length (log ++ Keep span ∷ [])) u (get_or newest u None)) (sym (variables-push log (Keep span)))
        (newest_other (map variable_in log) None (length log) (length (log ++ Keep span ∷ [])) u (get_or newest u None) (counted log) (length_push log (Keep span))
        (λ is. none-some u is) (held.known u));
  }

  pub begun_notes : notes_of ((cells ++ left) ++ right) (log ++ Keep span ∷ []) ≡ notes_of cells log ++ Kept (as_pair left right) ∷ []
  begun_notes =
      map-append (note_in ((cells ++ left) ++ right)) log (Keep span ∷ [])
      ∙ ap₂ (λ notes pair. notes ++ Kept pair ∷ []) (ap (λ (cs : List ℕ). notes_of cs log) (append_assoc cells left right) ∙ notes_kept cells (left ++ right) log held.within) pair_begun

-- what a pool shows of its entries
pub variables_of-notes : (cells : List ℕ) (log : List Entry) → map watched (notes_of cells log) ≡ map variable_in log
variables_of-notes cells [] = refl
variables_of-notes cells (Keep span ∷ log) = ap (λ ws. None ∷ ws) (variables_of-notes cells log)
variables_of-notes cells (Wait span v previous ∷ log) = ap (λ ws. Some v ∷ ws) (variables_of-notes cells log)

module _ (cells : List ℕ) (log : List Entry) (newest : List (Option ℕ)) (pool : List Note) (is : pool ≡ notes_of cells log) (held : AreHeld cells log newest) where
  seen : map watched pool ≡ map variable_in log
  seen = ap (map watched) is ∙ variables_of-notes cells log

  pub length_seen : length pool ≡ length log
  length_seen = ap length is ∙ length-map log (note_in cells)

  pub newest_seen : (v : ℕ) → IsNewest (map watched pool) (length pool) v (get_or newest v None)
  newest_seen v =
      subst (λ (ws : List (Option ℕ)). IsNewest ws (length pool) v (get_or newest v None)) (sym seen)
      (subst (λ (end : ℕ). IsNewest (map variable_in log) end v (get_or newest v None)) (sym length_seen) (held.known v))

  variable_seen : (place v : ℕ) (entry : Entry) → slice_get log place ≡ Some entry → IsPlaceOf pool place v → variable_in entry ≡ Some v
  variable_seen place v entry stands at_v =
      same_Some (variable_in entry) (Some v)
      (sym (slice_get-map variable_in log place ∙ ap (option_map variable_in) stands) ∙ sym (ap (λ (ws : List (Option ℕ)). slice_get ws place) seen) ∙ at_v)

  pub previous_seen : (place v u : ℕ) (span : Span) (previous : Option ℕ) → slice_get log place ≡ Some (Wait span u previous) → IsPlaceOf pool place v
      → IsNewest (map watched pool) place v previous
  previous_seen place v u span previous stands at_v =
      let same : u ≡ v = same_Some u v (variable_seen place v (Wait span u previous) stands at_v) in
      subst (λ (ws : List (Option ℕ)). IsNewest ws place v previous) (sym seen)
      (subst (λ (w : ℕ). IsNewest (map variable_in log) place w previous) same (held.linked place span u previous stands))

  pub waits_nowhere : (place v : ℕ) (span : Span) → slice_get log place ≡ Some (Keep span) → IsPlaceOf pool place v → ⊥
  waits_nowhere place v span stands at_v = none-some v (variable_seen place v (Keep span) stands at_v)

  pub pair_seen : (place : ℕ) (entry : Entry) → slice_get log place ≡ Some entry → pair_at pool place ≡ pair_in cells (span_in entry)
  pair_seen place entry stands =
      pair_at-note pool place (note_in cells entry) (ap (λ (notes : List Note). slice_get notes place) is ∙ slice_get-map (note_in cells) log place ∙ ap (option_map (note_in cells)) stands)
      ∙ by entry
    where
      by : (e : Entry) → noted_pair (note_in cells e) ≡ pair_in cells (span_in e)
      by (Keep span) = refl
      by (Wait span v previous) = refl

-- the pool with one more note that a pair waits
pub waited_notes : (cells : List ℕ) (log : List Entry) (pool : List Note) (span : Span) (v : ℕ) (previous : Option ℕ) (pair : Pair) → pool ≡ notes_of cells log
    → pair ≡ pair_in cells span → notes_of cells (log ++ Wait span v previous ∷ []) ≡ pool ++ Waits pair v ∷ []
waited_notes cells log pool span v previous pair is same =
    map-append (note_in cells) log (Wait span v previous ∷ []) ∙ ap₂ (λ notes p. notes ++ Waits p v ∷ []) (sym is) (sym same)

-- so with the lists as they were written down
pub begun : (cells left right : List ℕ) (log : List Entry) (newest : List (Option ℕ)) → AreHeld cells log newest → length left ≡ length right
    → (cells' cells'' : List ℕ) (log' log'' : List Entry) (start : ℕ) → cells' ≡ cells ++ left → cells'' ≡ cells' ++ right → log' ≡ log
    → log'' ≡ log' ++ Keep (record { start = start; count = length left }) ∷ [] → start ≡ length cells
    → AreHeld cells'' log'' newest × (notes_of cells'' log'' ≡ notes_of cells log ++ Kept (as_pair left right) ∷ [])
begun cells left right log newest held count cells' cells'' log' log'' start first second kept more starts =
    let span : Span = record { start = start; count = length left } in
    subst (λ (cs : List ℕ). AreHeld cs log'' newest × (notes_of cs log'' ≡ notes_of cells log ++ Kept (as_pair left right) ∷ [])) (sym (second ∙ ap (λ cs. cs ++ right) first))
    (subst (λ (es : List Entry). AreHeld ((cells ++ left) ++ right) es newest × (notes_of ((cells ++ left) ++ right) es ≡ notes_of cells log ++ Kept (as_pair left right) ∷ []))
    (sym (more ∙ ap (λ es. es ++ Keep span ∷ []) kept))
    (begun_held cells left right log newest held count span starts refl, begun_notes cells left right log newest held count span starts refl))

-- an entry that was read
pub entry_read : {A : Type 0} (xs : List A) (i : ℕ) (x y : A) → i < length xs → x ≡ get_or xs i x → x ≡ y → slice_get xs i ≡ Some y
entry_read xs i x y within read is = slice_get_read xs (length xs) i x refl within read ∙ ap Some is

-- a pair that is noted at a place waits at a variable
module _ (cells : List ℕ) (log : List Entry) (newest newest' : List (Option ℕ)) (pool : List Note) (is : pool ≡ notes_of cells log) (held : AreHeld cells log newest)
    (same : (v : ℕ) → get_or newest' v None ≡ get_or newest v None) (place : ℕ) (within : place < length pool) (entry : Entry) (read : entry ≡ get_or log place entry)
    (span : Span) (there : span ≡ span_in entry) (log' : List Entry) (v : ℕ) (previous : Option ℕ) (more : log' ≡ log ++ Wait span v previous ∷ []) where
  inside : place < length log
  inside = subst (λ (n : ℕ). place < n) (length_seen cells log newest pool is held) within

  pub waited : (number next : ℕ) → number ≡ v → number < length newest' → previous ≡ get_or newest' number previous → next ≡ length log
      → AreHeld cells log' (set newest' number (Some next))
  waited number next numbered room before after =
      let before_is : previous ≡ get_or newest' v None = get_or_read newest' number previous room before None ∙ ap (λ n. get_or newest' n None) numbered in
      subst (λ (es : List Entry). AreHeld cells es (set newest' number (Some next))) (sym (more ∙ ap (λ o. log ++ Wait span v o ∷ []) before_is))
      (subst (λ (ns : List (Option ℕ)). AreHeld cells (log ++ Wait span v (get_or newest' v None) ∷ []) ns) (sym (ap₂ (λ n k. set newest' n (Some k)) numbered after))
      (held_wait cells log newest' span v (held_room cells log newest newest' held same) ends (subst (λ (n : ℕ). n < length newest') numbered room)))
    where
      ends : span.start + span.count + span.count ≤ length cells
      ends =
          subst (λ (s : Span). s.start + s.count + s.count ≤ length cells) (sym there)
          (subst (λ (e : Entry). end_of_pair e ≤ length cells) (sym read) (held.within place entry inside))

  pub waited_note : notes_of cells log' ≡ pool ++ Waits (pair_at pool place) v ∷ []
  waited_note =
      ap (notes_of cells) more
      ∙ waited_notes cells log pool span v previous (pair_at pool place) is
      (pair_seen cells log newest pool is held place entry (slice_get_read log (length log) place entry refl inside read) ∙ ap (pair_in cells) (sym there))
