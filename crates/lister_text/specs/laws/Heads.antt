-- The first seven lines are read if and only if they stand there: head_read and head-ends. Assumes nothing.
use Rattle.std.specs.Prelude.{List, ◌++◌, ◌≡◌, refl, ℕ, ◌+◌, ◌≤◌, drop, Option, Some, None}
use Rattle.std.proofs.Common.{subst, ◌∙◌, arith}
use Rattle.std.proofs.Math.ListN.{length}
use Rattle.lister_text.specs.declared.Head.{Head}
use Rattle.lister_text.specs.Text.{line, min_zoom_key, max_zoom_key, min_points_key, radius_key, extent_key, node_size_key, count_key, head_text}
use Rattle.lister_text.specs.Text.{head_for, head_end}
use Rattle.lister_text.specs.laws.Form.{head_of_text}
use Rattle.lister_text.specs.laws.Lines.{LeftText, past, goes_on, got}

module _ (s : List ℕ) (a b m r e n k : ℕ) (t : List ℕ) where
  pub record HeadRead : Type 0 where
    pub reads : head_of_text s ≡ Some (head_for a b m r e n k (head_end a b m r e n k))
    pub rest : LeftText s (head_end a b m r e n k) t

  pub head_read : s ≡ head_text a b m r e n k t → a ≤ 255 → b ≤ 255 → m ≤ 255 → r ≤ 9999999 → e ≤ 9999999 → n ≤ 9999999 → k ≤ 1152 → HeadRead
  unfolding head_of_text
  head_read is ha hb hm hr he hn hk =
      let t6 = line count_key k ++ t in
      let t5 = line node_size_key n ++ t6 in
      let t4 = line extent_key e ++ t5 in
      let t3 = line radius_key r ++ t4 in
      let t2 = line min_points_key m ++ t3 in
      let t1 = line max_zoom_key b ++ t2 in
      let w0 : LeftText s 0 (line min_zoom_key a ++ t1) = record { upto = omega arith; is = is } in
      let p1 = 0 + length (line min_zoom_key a) in
      let w1 = past s 0 min_zoom_key a t1 w0 in
      let p2 = p1 + length (line max_zoom_key b) in
      let w2 = past s p1 max_zoom_key b t2 w1 in
      let p3 = p2 + length (line min_points_key m) in
      let w3 = past s p2 min_points_key m t3 w2 in
      let p4 = p3 + length (line radius_key r) in
      let w4 = past s p3 radius_key r t4 w3 in
      let p5 = p4 + length (line extent_key e) in
      let w5 = past s p4 extent_key e t5 w4 in
      let p6 = p5 + length (line node_size_key n) in
      let w6 = past s p5 node_size_key n t6 w5 in
      let p7 = p6 + length (line count_key k) in
      let w7 = past s p6 count_key k t w6 in
      record {
        reads = goes_on s 0 min_zoom_key a t1 w0 255 ha (omega arith) _ _
            ∙ goes_on s p1 max_zoom_key b t2 w1 255 hb (omega arith) _ _
            ∙ goes_on s p2 min_points_key m t3 w2 255 hm (omega arith) _ _
            ∙ goes_on s p3 radius_key r t4 w3 9999999 hr (omega arith) _ _
            ∙ goes_on s p4 extent_key e t5 w4 9999999 he (omega arith) _ _
            ∙ goes_on s p5 node_size_key n t6 w5 9999999 hn (omega arith) _ _
            ∙ goes_on s p6 count_key k t w6 1152 hk (omega arith) _ _;
        rest = w7;
      }

-- ---- what was read stands there

-- what a head that was read is
pub record HeadStands (s : List ℕ) (h : Head) : Type 0 where
  pub is : s ≡ head_text h.min_zoom h.max_zoom h.min_points h.radius h.extent h.node_size h.count
      (drop h.next.at s)
  pub ha : h.min_zoom ≤ 255
  pub hb : h.max_zoom ≤ 255
  pub hm : h.min_points ≤ 255
  pub hr : h.radius ≤ 9999999
  pub he : h.extent ≤ 9999999
  pub hn : h.node_size ≤ 9999999
  pub hk : h.count ≤ 1152
  pub upto : h.next.at ≤ length s

none-not : {h : Head} → None ≡ Some h → ⊥
none-not e = let z : ◌≡◌ {A = ℕ} 0 1 = cc in omega arith

head-inj : (g h : Head) → Some g ≡ Some h → g ≡ h
head-inj g h e = cc

pub head-ends : (s : List ℕ) (h : Head) → head_of_text s ≡ Some h → HeadStands s h
unfolding head_of_text
head-ends s h q =
    let go : Option Head → Option Head = λ x. x in
    let g1 = got s 0 min_zoom_key 255 None _ go (Some h) none-not q in
    let g2 = got s g1.to max_zoom_key 255 None _ go (Some h) none-not g1.goes in
    let g3 = got s g2.to min_points_key 255 None _ go (Some h) none-not g2.goes in
    let g4 = got s g3.to radius_key 9999999 None _ go (Some h) none-not g3.goes in
    let g5 = got s g4.to extent_key 9999999 None _ go (Some h) none-not g4.goes in
    let g6 = got s g5.to node_size_key 9999999 None _ go (Some h) none-not g5.goes in
    let g7 = got s g6.to count_key 1152 None _ go (Some h) none-not g6.goes in
    let made : head_for g1.num g2.num g3.num g4.num g5.num g6.num g7.num g7.to ≡ h = head-inj _ _ g7.goes in
    subst (λ (x : Head). HeadStands s x) made (record {
      is = g1.is _ (g2.is _ (g3.is _ (g4.is _ (g5.is _ (g6.is _ (g7.is _ refl))))));
      ha = g1.most;
      hb = g2.most;
      hm = g3.most;
      hr = g4.most;
      he = g5.most;
      hn = g6.most;
      hk = g7.most;
      upto = g7.upto;
    })
