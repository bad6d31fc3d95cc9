-- Boxes inside boxes, for any order in which the places of a table are visited: where every box is answered with those places of one list
-- that pass its test, in the list's order, all of #111 holds (`overlaps`). Nothing is asked of the list but that it is the same for every
-- box: it may be the order of an index, or that of the table. Assumes nothing.
use Rattle.std.specs.Prelude.{Bool, true, false, ◌&&◌, ◌||◌, ◌≡◌, refl, List, [], ◌∷◌, ℕ, eqb, get_or, Float}
use Rattle.std.proofs.Common.{sym, ap, ◌∙◌, eqb-true, eq-eqb}
use Rattle.std.specs.Float.{nan}
use Rattle.range.specs.declared.DataRange.{DataRange}
use Rattle.kdslots.specs.laws.Bounds.{and_both}
use Rattle.kdslots.specs.Keep.{put, keep}
use Rattle.kdslots.specs.laws.Keep.{keep-both}
use Rattle.kdbush.specs.laws.Promise.{passes_in}
use Rattle.ask_base.specs.Asked.{Asked, told}
use Rattle.law_overlap.specs.BoxesInsideBoxes.{Box, common, Taken, Empty, gives, Shared, Overlaps}
use Rattle.law_overlap.specs.Common.{boxed, Rising, common-taken, common-passes, empty-passes}

-- ---- tests

and-swap : (p q : Bool) → (p && q) ≡ (q && p)
and-swap true true = refl
and-swap true false = refl
and-swap false true = refl
and-swap false false = refl

and-group : (p q r : Bool) → ((p && q) && r) ≡ (p && (q && r))
and-group true q r = refl
and-group false q r = refl

and_last : (p q r : Bool) → ((p && q) && r) ≡ ((p && r) && q)
and_last p q r = and-group p q r ∙ ap (λ (b : Bool). p && b) (and-swap q r) ∙ sym (and-group p r q)

and_one : (b : Bool) → (b && b) ≡ b
and_one true = refl
and_one false = refl

or-true : (b : Bool) → (b || true) ≡ true
or-true true = refl
or-true false = refl

-- ---- what a list gives

-- of those that pass a test, a list gives what it gives and passes
gives-keep : (q : ℕ → Bool) (l : List ℕ) (k : ℕ) → gives (keep q l) k ≡ (gives l k && q k)
gives-keep q [] k = refl
gives-keep q (x ∷ xs) k = go (eqb k x) refl (q x) refl (gives-keep q xs k)
  where
    go : (b : Bool) → eqb k x ≡ b → (c : Bool) → q x ≡ c → gives (keep q xs) k ≡ (gives xs k && q k)
        → gives (put (q x) x (keep q xs)) k ≡ ((eqb k x || gives xs k) && q k)
    go true e true f i = let h : q k ≡ true = ap q (eqb-true k x e) ∙ f in rw (f, e, h)
    go true e false f i =
        let h : q k ≡ false = ap q (eqb-true k x e) ∙ f in
        rw (f, e) (i ∙ ap (λ (b : Bool). gives xs k && b) h ∙ and-swap (gives xs k) false ∙ sym h)
    go false e true f i = rw (f, e) i
    go false e false f i = rw (f, e) i

-- tests that agree on what a list gives keep the same of it
keep-agree : (f g : ℕ → Bool) (l : List ℕ) → ((k : ℕ) → gives l k ≡ true → f k ≡ g k) → keep f l ≡ keep g l
keep-agree f g [] h = refl
keep-agree f g (x ∷ xs) h =
    let here : gives (x ∷ xs) x ≡ true = ap (λ (b : Bool). b || gives xs x) (eq-eqb x x refl) in
    ap (λ (b : Bool). put b x (keep f xs)) (h x here)
    ∙ ap (put (g x) x) (keep-agree f g xs (λ k e. h k (ap (λ (b : Bool). eqb k x || b) e ∙ or-true (eqb k x))))

keep_same : (f g : ℕ → Bool) → ((k : ℕ) → f k ≡ g k) → (l : List ℕ) → keep f l ≡ keep g l
keep_same f g h l = keep-agree f g l (λ k e. h k)

keep-nothing : (f : ℕ → Bool) → ((k : ℕ) → f k ≡ false) → (l : List ℕ) → keep f l ≡ []
keep-nothing f h [] = refl
keep-nothing f h (x ∷ xs) = rw (h x) (keep-nothing f h xs)

-- of one list: those that pass p and q are, of those that pass p, just those that are given where q is asked
keep-shared : (p q r : ℕ → Bool) → ((k : ℕ) → r k ≡ (p k && q k)) → (l : List ℕ) → keep r l ≡ keep (gives (keep q l)) (keep p l)
keep-shared p q r h l = keep-both p q r h l ∙ keep-agree q (gives (keep q l)) (keep p l) agree
  where
    agree : (k : ℕ) → gives (keep p l) k ≡ true → q k ≡ gives (keep q l) k
    agree k e =
        let there = (and_both (gives l k) (p k) (sym (gives-keep p l k) ∙ e)).0 in
        sym (gives-keep q l k ∙ ap (λ (b : Bool). b && q k) there)

-- ---- any order

module _ (d : DataRange) (r : Rising d) (xs ys : List Float) (order : List ℕ) where
  -- whether the point at a place lies in a box
  abbrev inside : Box → ℕ → Bool
  inside a = passes_in (boxed d a) xs ys

  -- what a box lists: those places of the order that lie in it
  abbrev pub list_of : Box → List ℕ
  list_of a = keep (passes_in (boxed d a) xs ys) order

  module _ (a b : Box) (p : Taken d a) (q : Taken d b) where
    both : (k : ℕ) → inside (common a b) k ≡ (inside a k && inside b k)
    both k = common-passes d r a b p q (get_or xs k nan) (get_or ys k nan)

    turn : (k : ℕ) → inside (common a b) k ≡ (inside b k && inside a k)
    turn k = both k ∙ and-swap (inside a k) (inside b k)

  -- three boxes, cut one after the other
  module _ (a b c : Box) (p : Taken d a) (q : Taken d b) (s : Taken d c) where
    cut-taken : Taken d (common (common a b) c)
    cut-taken = common-taken d (common a b) c (common-taken d a b p q) s

    cut : (k : ℕ) → inside (common (common a b) c) k ≡ ((inside a k && inside b k) && inside c k)
    cut k = both (common a b) c (common-taken d a b p q) s k ∙ ap (λ (t : Bool). t && inside c k) (both a b p q k)

    cut-back : (k : ℕ) → inside (common a (common b c)) k ≡ (inside a k && (inside b k && inside c k))
    cut-back k = both a (common b c) p (common-taken d b c q s) k ∙ ap (λ (t : Bool). inside a k && t) (both b c q s k)

  -- for a question that answers each box with what it lists
  module _ (ask : Box → Asked) (is : (a : Box) → Taken d a → ask a ≡ told true (list_of a)) where
    -- boxes with the same points in them have the same answer
    same : (a b : Box) → Taken d a → Taken d b → ((k : ℕ) → inside a k ≡ inside b k) → ask a ≡ ask b
    same a b p q h = is a p ∙ ap (told true) (keep_same (inside a) (inside b) h order) ∙ sym (is b q)

    shared : (a b : Box) → Taken d a → Taken d b → Shared (ask a) (ask b) (ask (common a b))
    shared a b p q =
        let c = is (common a b) (common-taken d a b p q) in
        record {
          first = list_of a;
          second = list_of b;
          one-gives = is a p;
          other-gives = is b q;
          as_first = c ∙ ap (told true) (keep-shared (inside a) (inside b) (inside (common a b)) (both a b p q) order);
          as-second = c ∙ ap (told true) (keep-shared (inside b) (inside a) (inside (common a b)) (turn a b p q) order);
        }

    twice : (a : Box) → Taken d a → ask (common a a) ≡ ask a
    twice a p = same (common a a) a (common-taken d a a p p) p (λ k. both a a p p k ∙ and_one (inside a k))

    turned : (a b : Box) → Taken d a → Taken d b → ask (common a b) ≡ ask (common b a)
    turned a b p q =
        same (common a b) (common b a) (common-taken d a b p q) (common-taken d b a q p) (λ k. turn a b p q k ∙ sym (both b a q p k))

    nothing : (a b : Box) → Taken d a → Taken d b → Empty d (common a b) → ask (common a b) ≡ told true []
    nothing a b p q h =
        let none : (k : ℕ) → inside (common a b) k ≡ false = λ k. empty-passes d (common a b) h (get_or xs k nan) (get_or ys k nan) in
        is (common a b) (common-taken d a b p q) ∙ ap (told true) (keep-nothing (inside (common a b)) none order)

    module _ (a b c : Box) (p : Taken d a) (q : Taken d b) (s : Taken d c) where
      first-turned : ask (common (common a b) c) ≡ ask (common (common b a) c)
      first-turned =
          same (common (common a b) c) (common (common b a) c) (cut-taken a b c p q s) (cut-taken b a c q p s)
          (λ k. cut a b c p q s k ∙ ap (λ (t : Bool). t && inside c k) (and-swap (inside a k) (inside b k)) ∙ sym (cut b a c q p s k))

      last-turned : ask (common (common a b) c) ≡ ask (common (common a c) b)
      last-turned =
          same (common (common a b) c) (common (common a c) b) (cut-taken a b c p q s) (cut-taken a c b p s q)
          (λ k. cut a b c p q s k ∙ and_last (inside a k) (inside b k) (inside c k) ∙ sym (cut a c b p s q k))

      regrouped : ask (common (common a b) c) ≡ ask (common a (common b c))
      regrouped =
          let t = common-taken d a (common b c) p (common-taken d b c q s) in
          same (common (common a b) c) (common a (common b c)) (cut-taken a b c p q s) t
          (λ k. cut a b c p q s k ∙ and-group (inside a k) (inside b k) (inside c k) ∙ sym (cut-back a b c p q s k))

    -- #111, for any order
    pub overlaps : Overlaps d ask
    overlaps =
        record {
          shared = shared;
          nothing = nothing;
          twice = twice;
          turned = turned;
          first-turned = first-turned;
          last-turned = last-turned;
          regrouped = regrouped;
        }
