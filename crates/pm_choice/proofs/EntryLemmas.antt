-- Counting entries: one more, another test, neighbouring intervals; a count is one number.
use Rattle.std.proofs.Common.{◌≡◌, ℕ, ◌+◌, ◌<◌, ◌⊎◌, ◌∙◌, Bool, true, false, List, [], ◌∷◌, ◌++◌, length, refl, sym, ap, subst, arith, inl, inr, length-append}
use Rattle.std.specs.Prelude.{◌↔◌, All, Contains, IsTrue, IsFalse}
use Rattle.std.proofs.lemmas.List.{length_push, get_or_default}
use Rattle.std.proofs.lemmas.List.Elements.{Contains-push, Contains-push_cases, Contains-append_left, Contains-append_right, Contains-append_cases}
use Rattle.pm_choice.specs.declared.Bound.{Bound}
use Rattle.pm_choice.specs.declared.Bound.TheVariants.{At, End}
use Rattle.pm_choice.specs.Order.{Precedes, PrecedesBound, IsWithin, IsUpTo}
use Rattle.pm_choice.specs.Entries.{Entries, AreEntries, HasCount, Closes, Finds, HasMore}
use Rattle.pm_choice.specs.EntryLaws.{FirstIsUnique, AreOneList, IsOneCount, EntriesAreUnique, EntriesJoin, ClosedListIsCounted}
use Rattle.pm_choice.proofs.OrderLemmas.{transitive, total, not_below, below_bound, below_or_not, across_bound, intervals}
use Rattle.pm_choice.proofs.RisingLemmas.{all_from, rising_push, rising_append, same_rising, no_longer}

-- a list is within the interval from the empty list to a bound that it precedes
pub from_start : (list : List ℕ) (to : Bound) → PrecedesBound list to → IsWithin [] to list
from_start list to below = record { not_below = λ before. before; below = below }

-- two entries say the same of each list
pub record AreSameEntries (entries other : Entries) : Type 0 where
  pub entry : (list : List ℕ) → entries.is_entry list ↔ other.is_entry list
  pub marked : (list : List ℕ) → entries.is_marked list ↔ other.is_marked list

pub count_same : (entries other : Entries) → AreSameEntries entries other → (test : List ℕ → Type 0) (count : ℕ) → HasCount entries test count → HasCount other test count
count_same entries other same test count has = record {
  all = has.all;
  are = record {
    rising = has.are.rising;
    exactly = λ list. (
      λ within. let is = (has.are.exactly list).0 within in ((same.entry list).0 is.0, is.1),
      λ is. (has.are.exactly list).1 ((same.entry list).1 is.0, is.1),
    );
  };
  counted = has.counted;
}

pub closes_same : (entries other : Entries) → AreSameEntries entries other → (from : List ℕ) (to : Bound) (work : ℕ) → Closes entries from to work → Closes other from to work
closes_same entries other same from to work closes = record {
  count = count_same entries other same (IsWithin from to) work closes.count;
  none = λ list marked. closes.none list ((same.marked list).1 marked);
}

pub finds_same : (entries other : Entries) → AreSameEntries entries other → (from : List ℕ) (to : Bound) (path : List ℕ) (work : ℕ) → Finds entries from to path work → Finds other from to path work
finds_same entries other same from to path work finds = record {
  first = record {
    marked = (same.marked path).0 finds.first.marked;
    passes = finds.first.passes;
    least = λ list marked. finds.first.least list ((same.marked list).1 marked);
  };
  count = count_same entries other same (IsUpTo from path) work finds.count;
}

module _ (entries : Entries) where
  -- no entry passes
  pub count_none : (test : List ℕ → Type 0) → ((list : List ℕ) → entries.is_entry list → ¬ test list) → HasCount entries test 0
  count_none test none = record {
    all = [];
    are = record { rising = tt; exactly = λ list. (λ within. absurd (omega (arith, within.1)), λ is. absurd (none list is.0 is.1)) };
    counted = refl;
  }

  -- a test that says the same of the entries
  pub count_alike : (test other : List ℕ → Type 0) (count : ℕ) → ((list : List ℕ) → entries.is_entry list → (test list ↔ other list)) → HasCount entries test count → HasCount entries other count
  count_alike test other count alike has = record {
    all = has.all;
    are = record {
      rising = has.are.rising;
      exactly = λ list. (
        λ within. let is = (has.are.exactly list).0 within in (is.0, (alike list is.0).0 is.1),
        λ is. (has.are.exactly list).1 (is.0, (alike list is.0).1 is.1),
      );
    };
    counted = has.counted;
  }

  -- one entry more, above those before
  pub count_more : (test other : List ℕ → Type 0) (last : List ℕ) (count : ℕ) → entries.is_entry last
      → ((list : List ℕ) → test list → Precedes list last) → ((list : List ℕ) → entries.is_entry list → (other list ↔ (test list ⊎ (list ≡ last))))
      → HasCount entries test count → HasCount entries other (count + 1)
  count_more test other last count entry above more has =
      let below : All (λ list. Precedes list last) has.all =
      λ n d within. above _ ((has.are.exactly _).0 (n, within, get_or_default has.all n _ d within)).1 in
      record {
        all = has.all ++ last ∷ [];
        are = record {
          rising = rising_push has.all last has.are.rising below;
          exactly = λ list. (
            λ within. elim (Contains-push_cases has.all last list within) [
              | inl before ↦ let is = (has.are.exactly list).0 before in (is.0, (more list is.0).1 (inl is.1))
              | inr same ↦ (subst (λ (l : List ℕ). entries.is_entry l) same entry, subst (λ (l : List ℕ). other l) same ((more last entry).1 (inr refl)))
            ],
            λ is. elim ((more list is.0).0 is.1) [
              | inl before ↦ Contains-append_left has.all (last ∷ []) list ((has.are.exactly list).1 (is.0, before))
              | inr same ↦ subst (λ (l : List ℕ). Contains (has.all ++ last ∷ []) l) (sym same) (Contains-push has.all last)
            ],
          );
        };
        counted = length_push has.all last ∙ ap (λ (n : ℕ). n + 1) has.counted;
      }

  -- The entries that pass two tests, of which the one passes only lists below a list and the other none.
  pub entries_join : (left right whole : List ℕ → Type 0) (b : List ℕ) (xs ys : List (List ℕ))
      → ((l : List ℕ) → left l → whole l × Precedes l b) → ((l : List ℕ) → right l → whole l × (¬ Precedes l b)) → ((l : List ℕ) → whole l → left l ⊎ right l)
      → AreEntries entries left xs → AreEntries entries right ys → AreEntries entries whole (xs ++ ys)
  entries_join left right whole b xs ys below above parts p q = record {
    rising = rising_append xs ys p.rising q.rising
        (λ x y within within'. across_bound b x y (below x ((p.exactly x).0 within).1).1 (above y ((q.exactly y).0 within').1).1);
    exactly = λ list. (
      λ within. elim (Contains-append_cases xs ys list within) [
        | inl there ↦ let is = (p.exactly list).0 there in (is.0, (below list is.1).0)
        | inr there ↦ let is = (q.exactly list).0 there in (is.0, (above list is.1).0)
      ],
      λ is. elim (parts list is.1) [
        | inl there ↦ Contains-append_left xs ys list ((p.exactly list).1 (is.0, there))
        | inr there ↦ Contains-append_right xs ys list ((q.exactly list).1 (is.0, there))
      ],
    );
  }

  count_join : (left right whole : List ℕ → Type 0) (b : List ℕ) (m n : ℕ)
      → ((l : List ℕ) → left l → whole l × Precedes l b) → ((l : List ℕ) → right l → whole l × (¬ Precedes l b)) → ((l : List ℕ) → whole l → left l ⊎ right l)
      → HasCount entries left m → HasCount entries right n → HasCount entries whole (m + n)
  count_join left right whole b m n below above parts p q = record {
    all = p.all ++ q.all;
    are = entries_join left right whole b p.all q.all below above parts p.are q.are;
    counted = omega (arith, length-append p.all q.all, p.counted, q.counted);
  }

  pub intervals_join : EntriesJoin entries
  intervals_join a b c left right between below are are' =
      let parts = intervals a b c between below in
      entries_join (IsWithin a (At b)) (IsWithin b c) (IsWithin a c) b left right
      (λ l within. ((parts.whole l).1 (inl within), within.below))
      (λ l within. ((parts.whole l).1 (inr within), within.not_below))
      (λ l within. (parts.whole l).0 within) are are'

  -- an interval up to its own beginning has no entries
  pub closes_nothing : Closes entries [] (At []) 0
  closes_nothing = record {
    count = count_none (IsWithin [] (At [])) (λ list entry within. within.below);
    none = λ list marked within. within.below;
  }

  -- an interval from a list to the same list has no entries
  pub closes_none : (from : List ℕ) (work : ℕ) → Closes entries from (At from) work → work ≡ 0
  closes_none from work closes =
      sym closes.count.counted ∙ none closes.count.all (λ list has. let within = ((closes.count.are.exactly list).0 has).1 in within.not_below within.below)
    where
      none : (all : List (List ℕ)) → ((list : List ℕ) → Contains all list → ⊥) → length all ≡ 0
      none [] empty = refl
      none (x ∷ xs) empty = absurd (empty x (Contains-append_left (x ∷ []) xs x (Contains-push [] x)))

  pub closes_join : (b : List ℕ) (c : Bound) (m n : ℕ) → PrecedesBound b c → Closes entries [] (At b) m → Closes entries b c n → Closes entries [] c (m + n)
  closes_join b c m n here p q = record {
    count = count_join (IsWithin [] (At b)) (IsWithin b c) (IsWithin [] c) b m n
        (λ l within. (from_start l c (below_bound l b c within.below here), within.below))
        (λ l within. (from_start l c within.below, within.not_below))
        (λ l within. elim (below_or_not l b) [
          | inl below ↦ inl (from_start l (At b) below)
          | inr above ↦ inr (record { not_below = above; below = within.below })
        ])
        p.count q.count;
    none = λ list marked within. elim (below_or_not list b) [
      | inl below ↦ p.none list marked (from_start list (At b) below)
      | inr above ↦ q.none list marked (record { not_below = above; below = within.below })
    ];
  }

  pub finds_join : (b : List ℕ) (c : Bound) (path : List ℕ) (m n : ℕ) → Closes entries [] (At b) m → Finds entries b c path n → Finds entries [] End path (m + n)
  finds_join b c path m n p q = record {
    first = record {
      marked = q.first.marked;
      passes = from_start path End tt;
      least = λ other marked within before. elim (below_or_not other b) [
        | inl below ↦ p.none other marked (from_start other (At b) below)
        | inr above ↦ q.first.least other marked (record { not_below = above; below = below_bound other path c before q.first.passes.below }) before
      ];
    };
    count = count_join (IsWithin [] (At b)) (IsUpTo b path) (IsUpTo [] path) b m n
        (λ l within. (record { not_below = λ h. h; not_above = λ over. q.first.passes.not_below (transitive path l b over within.below) }, within.below))
        (λ l up. (record { not_below = λ h. h; not_above = up.not_above }, up.not_below))
        (λ l up. elim (below_or_not l b) [
          | inl below ↦ inl (from_start l (At b) below)
          | inr above ↦ inr (record { not_below = above; not_above = up.not_above })
        ])
        p.count q.count;
  }

  pub more_closed : (to : Bound) (most work : ℕ) → Closes entries [] to work → most < work → HasMore entries most
  more_closed to most work closes over = record {
    all = closes.count.all;
    rising = closes.count.are.rising;
    entry = λ list within. ((closes.count.are.exactly list).0 within).0;
    none = λ list within other marked before.
        let is = (closes.count.are.exactly list).0 within in
        closes.none other marked (from_start other to (below_bound other list to before is.1.below));
    more = omega (arith, closes.count.counted, over);
  }

  pub more_found : (path : List ℕ) (most work : ℕ) → Finds entries [] End path work → most < work → HasMore entries most
  more_found path most work finds over = record {
    all = finds.count.all;
    rising = finds.count.are.rising;
    entry = λ list within. ((finds.count.are.exactly list).0 within).0;
    none = λ list within other marked before.
        let is = (finds.count.are.exactly list).0 within in
        finds.first.least other marked (from_start other End tt)
        (elim (not_below path list is.1.not_above) [
          | inl same ↦ subst (λ (l : List ℕ). Precedes other l) (sym same) before
          | inr after ↦ transitive other list path before after
        ]);
    more = omega (arith, finds.count.counted, over);
  }

  -- more entries than so many are too many for a search
  pub more_than_closed : (most work : ℕ) → HasMore entries most → Closes entries [] End work → most < work
  more_than_closed most work has closes =
      let count = no_longer has.all closes.count.all has.rising closes.count.are.rising
      (λ l within. (closes.count.are.exactly l).1 (has.entry l within, from_start l End tt)) in
      omega (arith, count, closes.count.counted, has.more)

  pub more_than_found : (path : List ℕ) (most work : ℕ) → HasMore entries most → Finds entries [] End path work → most < work
  more_than_found path most work has finds =
      let count = no_longer has.all finds.count.all has.rising finds.count.are.rising
      (λ l within. (finds.count.are.exactly l).1 (has.entry l within, record { not_below = λ h. h; not_above = has.none l within path finds.first.marked })) in
      omega (arith, count, finds.count.counted, has.more)

  pub first_unique : FirstIsUnique entries
  first_unique from to first other is is' =
      elim (total first other) [
        | inl (inl before) ↦ absurd (is'.least first is.marked is.passes before)
        | inl (inr same) ↦ same
        | inr before ↦ absurd (is.least other is'.marked is'.passes before)
      ]

  one_list : (test : List ℕ → Type 0) → AreOneList entries test
  one_list test all other are are' =
      same_rising all other are.rising are'.rising
      (λ list within. (are'.exactly list).1 ((are.exactly list).0 within))
      (λ list within. (are.exactly list).1 ((are'.exactly list).0 within))

  one_count : (test : List ℕ → Type 0) → IsOneCount entries test
  one_count test count other has has' = sym has.counted ∙ ap length (one_list test has.all has'.all has.are has'.are) ∙ has'.counted

  pub entries_unique : EntriesAreUnique entries
  entries_unique = record {
    within = λ from to. one_list (IsWithin from to);
    up_to = λ from last. one_list (IsUpTo from last);
    count_within = λ from to. one_count (IsWithin from to);
    count_up_to = λ from last. one_count (IsUpTo from last);
  }

  -- all lists have one first marked one at most, and one number of entries up to it
  pub finds_once : (path other : List ℕ) (m n : ℕ) → Finds entries [] End path m → Finds entries [] End other n → (path ≡ other) × (m ≡ n)
  finds_once path other m n a b =
      let paths : path ≡ other = first_unique [] End path other a.first b.first in
      (paths, one_count (IsUpTo [] path) m n a.count (subst (λ (l : List ℕ). HasCount entries (IsUpTo [] l) n) (sym paths) b.count))

  pub closes_once : (m n : ℕ) → Closes entries [] End m → Closes entries [] End n → m ≡ n
  closes_once m n a b = one_count (IsWithin [] End) m n a.count b.count

  pub not_both : (path : List ℕ) (m n : ℕ) → Finds entries [] End path m → Closes entries [] End n → ⊥
  not_both path m n finds closes = closes.none path finds.first.marked finds.first.passes

not_marked : (b : Bool) → (¬ IsTrue b) → IsFalse b
not_marked true no_mark = absurd (no_mark refl)
not_marked false no_mark = refl

pub closed_list : ClosedListIsCounted
closed_list all marked work rising closes =
    let there = no_longer closes.count.all all closes.count.are.rising rising (λ l within. ((closes.count.are.exactly l).0 within).0) in
    let back = no_longer all closes.count.all rising closes.count.are.rising (λ l within. (closes.count.are.exactly l).1 (within, from_start l End tt)) in (
      all_from (λ (list : List ℕ). IsFalse (marked list)) all
          (λ list within. not_marked (marked list) (λ mark. closes.none list (within, mark) (from_start list End tt))),
      omega (arith, there, back, closes.count.counted),
    )
