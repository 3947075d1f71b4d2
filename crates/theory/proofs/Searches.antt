-- The searches of a growth: what one finds, what all find, and how many cells they look at.
use Prim.Native.Nat.{ℕ, zero, suc, ◌+◌, ◌-◌, ◌≤◌, ◌<◌}
use mathlib.Core.Path.{◌≡◌, refl, sym, ◌∙◌, ap}
use mathlib.Core.Bool.{Bool, true, false, cond}
use mathlib.Core.List.{List, [], ◌∷◌, ◌++◌, append-nil}
use native.Mathlib.Omega.{arith}
use native.Mathlib.Decide.{ℕ_discrete, dec_le, dec_lt}
use lib.Dec.{ltb}
use lib.ListN.{length, take}
use lib.Seq.{take_all, take-append-le, take-append-add}
use borrow.Author.Tests.{le-leb, lt-leb, lt-ltb, le-ltb}
use Rattle.format.specs.Basics.Lists.{pick_below, sum}
use Rattle.format.specs.Layout.Chain.{is_free}
use Rattle.format.specs.Layout.Space.{Space, free_units}
use Rattle.format.specs.Calls.Search.{free_from, lowest_free, search, searches, growth_searches, units_found, cells_looked, searches_for}
use Rattle.format.specs.Claims.Search.{FindLowest, LookAtMost}
use Rattle.theory.proofs.Picks.{pick_same}

-- the first n of two lists
take_two : (xs ys : List ℕ) (n : ℕ) → take n (xs ++ ys) ≡ take n xs ++ take (n - length xs) ys
take_two xs ys n =
    elim (dec_le n (length xs)) [
      | yes h ↦ let z : n - length xs ≡ 0 = omega arith in take-append-le n xs ys h ∙ sym (ap (λ k. take n xs ++ take k ys) z ∙ append-nil (take n xs))
      | no h ↦
          let e : n ≡ length xs + (n - length xs) = omega arith in
          ap (λ k. take k (xs ++ ys)) e ∙ take-append-add xs ys (n - length xs) ∙ ap (λ l. l ++ take (n - length xs) ys) (sym (take_all n xs (omega arith)))
    ]

module _ (sp : Space) where
  -- ---- the units from a place on

  -- below it none passes
  pub from_below : (a u : ℕ) → u < a → free_from sp a u ≡ false
  unfolding free_from
  from_below a u h = rw (lt-leb a u h)

  -- from it on a free one does
  pub from_above : (a u : ℕ) → a ≤ u → free_from sp a u ≡ is_free sp.cell u
  unfolding free_from
  from_above a u h = rw (le-leb a u h)

  pick_none : (n a : ℕ) → n ≤ a → pick_below n (free_from sp a) ≡ []
  pick_none zero a h = refl
  pick_none (suc n) a h = rw (pick_none n a (omega arith), from_below a n (omega arith))

  -- a place that is not free is passed over
  pick_past : (a n : ℕ) → is_free sp.cell a ≡ false → pick_below n (free_from sp a) ≡ pick_below n (free_from sp (suc a))
  pick_past a n f = pick_same (free_from sp (suc a)) (free_from sp a) n (λ u l. same u)
    where
      same : (u : ℕ) → free_from sp a u ≡ free_from sp (suc a) u
      same u =
          elim (dec_lt u a) [
            | yes h ↦ from_below a u h ∙ sym (from_below (suc a) u (omega arith))
            | no h ↦
                elim (ℕ_discrete u a) [
                  | yes e ↦ from_above a u (omega arith) ∙ ap (is_free sp.cell) e ∙ f ∙ sym (from_below (suc a) u (omega arith))
                  | no e ↦ from_above a u (omega arith) ∙ sym (from_above (suc a) u (omega arith))
                ]
          ]

  -- one that is free comes first
  pick_here : (a n : ℕ) → a < n → is_free sp.cell a ≡ true → pick_below n (free_from sp a) ≡ a ∷ pick_below n (free_from sp (suc a))
  pick_here a zero h f = absurd (omega arith)
  pick_here a (suc n) h f =
      elim (dec_lt a n) [
        | yes l ↦ rw (pick_here a n l f, from_above a n (omega arith), from_above (suc a) n (omega arith))
        | no l ↦
            let e : n ≡ a = omega arith in
            rw (e, pick_none a a (omega arith), from_above a a (omega arith), f, pick_none a (suc a) (omega arith), from_below (suc a) a (omega arith))
      ]

  -- ---- one search

  pub lowest_here : (a : ℕ) → a < sp.limit → is_free sp.cell a ≡ true → lowest_free sp a ≡ a
  unfolding lowest_free
  lowest_here a h f = rw (pick_here a sp.limit h f)

  pub lowest_next : (a : ℕ) → is_free sp.cell a ≡ false → lowest_free sp a ≡ lowest_free sp (suc a)
  unfolding lowest_free
  lowest_next a f = rw (pick_past a sp.limit f)

  pub lowest_none : (a : ℕ) → sp.limit ≤ a → lowest_free sp a ≡ sp.limit
  unfolding lowest_free
  lowest_none a h = rw (pick_none sp.limit a h)

  -- u is found from a on, and after it what is found from just above it on
  pub record Lowest (a u : ℕ) : Type 0 where
    pub low : a ≤ u
    pub high : u ≤ sp.limit
    pub none : (x : ℕ) → a ≤ x → x < u → is_free sp.cell x ≡ false
    pub list : pick_below sp.limit (free_from sp a) ≡ cond (ltb u sp.limit) (u ∷ pick_below sp.limit (free_from sp (suc u))) []

  lowest_from : (k a : ℕ) → a + k ≡ sp.limit → Lowest a (lowest_free sp a)
  lowest_from zero a e =
      rw (lowest_none a (omega arith))
      (record {
        low = omega arith;
        high = omega arith;
        none = λ x l h. absurd (omega arith);
        list = rw (le-ltb sp.limit sp.limit (omega arith)) (pick_none sp.limit a (omega arith));
      })
  lowest_from (suc k) a e = go (is_free sp.cell a) refl (lowest_from k (suc a) (omega arith))
    where
      go : (t : Bool) → is_free sp.cell a ≡ t → Lowest (suc a) (lowest_free sp (suc a)) → Lowest a (lowest_free sp a)
      go true f r =
          rw (lowest_here a (omega arith) f)
          (record {
            low = omega arith;
            high = omega arith;
            none = λ x l h. absurd (omega arith);
            list = rw (lt-ltb a sp.limit (omega arith)) (pick_here a sp.limit (omega arith) f);
          })
      go false f r =
          rw (lowest_next a f)
          (record {
            low = omega (arith, r.low);
            high = r.high;
            none = λ x l h. elim (ℕ_discrete x a) [ yes z ↦ rw z f | no z ↦ r.none x (omega arith) h ];
            list = pick_past a sp.limit f ∙ r.list;
          })

  pub lowest : (a : ℕ) → a ≤ sp.limit → Lowest a (lowest_free sp a)
  lowest a h = lowest_from (sp.limit - a) a (omega arith)

  -- ---- all of them

  finds : (n a : ℕ) → a ≤ sp.limit → units_found sp (searches sp n a) ≡ take n (pick_below sp.limit (free_from sp a))
  unfolding searches search units_found
  finds zero a h = refl
  finds (suc n) a h =
      let r = lowest a h in
      elim (dec_lt (lowest_free sp a) sp.limit) [
        | yes l ↦ rw (r.list, lt-ltb (lowest_free sp a) sp.limit l, finds n (suc (lowest_free sp a)) l)
        | no l ↦ rw (r.list, le-ltb (lowest_free sp a) sp.limit (omega arith))
      ]

  looks : (n a : ℕ) → a ≤ sp.limit → cells_looked (searches sp n a) ≤ sp.limit - a
  unfolding searches search cells_looked sum
  looks zero a h = omega arith
  looks (suc n) a h =
      let r = lowest a h in
      elim (dec_lt (lowest_free sp a) sp.limit) [
        | yes l ↦ rw (lt-ltb (lowest_free sp a) sp.limit l) (omega (arith, looks n (suc (lowest_free sp a)) l, r.low))
        | no l ↦ rw (le-ltb (lowest_free sp a) sp.limit (omega arith)) (omega arith)
      ]

  -- from 0 on all are found
  all_from : pick_below sp.limit (free_from sp 0) ≡ free_units sp
  unfolding free_units
  all_from = pick_same (is_free sp.cell) (free_from sp 0) sp.limit (λ u l. from_above 0 u (omega arith))

  pub find_lowest : FindLowest sp
  unfolding growth_searches
  find_lowest n = finds n 0 (omega arith) ∙ ap (take n) all_from

  -- what is taken of some units and of the free ones behind them
  pub units_searched : (us : List ℕ) (n : ℕ) → take n (us ++ free_units sp) ≡ take n us ++ units_found sp (growth_searches sp (n - length us))
  units_searched us n = take_two us (free_units sp) n ∙ ap (λ l. take n us ++ l) (sym (find_lowest (n - length us)))

  pub look_at_most : LookAtMost sp
  unfolding growth_searches
  look_at_most n = let h = looks n 0 (omega arith) in omega (arith, h)

  -- ---- those of a chain

  -- what it lacks is searched for where there are so many units
  pub searches_some : (kept need : ℕ) → need ≤ sp.limit → searches_for sp kept need ≡ growth_searches sp (need - kept)
  unfolding searches_for
  searches_some kept need h = rw (le-ltb sp.limit need h)

  pub searches_none : (kept need : ℕ) → sp.limit < need → searches_for sp kept need ≡ []
  unfolding searches_for
  searches_none kept need h = rw (lt-ltb sp.limit need h)

  pub chain_looks : (kept need : ℕ) → cells_looked (searches_for sp kept need) ≤ sp.limit
  unfolding cells_looked sum
  chain_looks kept need =
      elim (dec_lt sp.limit need) [
        | yes h ↦ rw (searches_none kept need h) (omega arith)
        | no h ↦ rw (searches_some kept need (omega arith)) (look_at_most (need - kept))
      ]
