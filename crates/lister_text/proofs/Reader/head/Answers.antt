-- `lister_text::Reader::head` meets its contract: the first seven lines, one after the other, as `head_of_text` has them. Assumes nothing.
use Rattle.std.proofs.Common.{◌≡◌, ℕ, List, Option, Some, None, refl, sym, ◌∙◌, ap}
use Rattle.lister_text.specs.declared.Head.{Head}
use Rattle.lister_text.specs.Text.{min_zoom_key}
use Rattle.lister_text.specs.laws.Scan.{line_of}
use Rattle.lister_text.specs.laws.Form.{each_value, each_number, each-bad, head_of_text}
use Rattle.lister_text.proofs.Reader.head.Goals as goal

-- a line that was read, and one that was not; t is the text as the reader has it there
module _ (s t : List ℕ) (at : ℕ) (key : List ℕ) (max : ℕ) (e : t ≡ s) where
  on : {v to : ℕ} → ◌≡◌ {A = Option (ℕ × ℕ)} (Some (v, to)) (line_of t at key max) → (other : Option Head) (f : ℕ → ℕ → Option Head)
      → each_value (line_of s at key max) other f ≡ f v to
  on q other f = each_number other f (ap (λ (l : List ℕ). line_of l at key max) (sym e) ∙ sym q)

  off : None ≡ line_of t at key max → (other : Option Head) (f : ℕ → ℕ → Option Head) → each_value (line_of s at key max) other f ≡ other
  off q other f = each-bad other f (ap (λ (l : List ℕ). line_of l at key max) (sym e) ∙ sym q)

pub returns-in_err-node_size-clause-read : goal.returns-in_err-node_size-clause-read
unfolding head_of_text
returns-in_err-node_size-clause-read c =
    let s = c.args.self.now.text.now in
    let t1 = c.line.ensures.text in
    let t2 = c.line-2.ensures.text ∙ t1 in
    let t3 = c.line-3.ensures.text ∙ t2 in
    let t4 = c.line-4.ensures.text ∙ t3 in
    let t5 = c.line-5.ensures.text ∙ t4 in
    rw c.from_residual-in_err-node_size.ensures
    (sym (on s _ _ _ _ refl (c.in_ok-min_zoom.ensures.read ∙ ap (λ (n : ℕ). line_of s n min_zoom_key 255) c.requires) None _
    ∙ on s _ _ _ _ (λ k. (t1 k).now) c.in_ok-max_zoom.ensures.read None _
    ∙ on s _ _ _ _ (λ k. (t2 k).now) c.in_ok-min_points.ensures.read None _
    ∙ on s _ _ _ _ (λ k. (t3 k).now) c.in_ok-radius.ensures.read None _
    ∙ on s _ _ _ _ (λ k. (t4 k).now) c.in_ok-extent.ensures.read None _
    ∙ off s _ _ _ _ (λ k. (t5 k).now) c.in_err-node_size.ensures.read None _))

pub returns-in_err-count-clause-read : goal.returns-in_err-count-clause-read
unfolding head_of_text
returns-in_err-count-clause-read c =
    let s = c.args.self.now.text.now in
    let t1 = c.line.ensures.text in
    let t2 = c.line-2.ensures.text ∙ t1 in
    let t3 = c.line-3.ensures.text ∙ t2 in
    let t4 = c.line-4.ensures.text ∙ t3 in
    let t5 = c.line-5.ensures.text ∙ t4 in
    let t6 = c.line-6.ensures.text ∙ t5 in
    rw c.from_residual-in_err-count.ensures
    (sym (on s _ _ _ _ refl (c.in_ok-min_zoom.ensures.read ∙ ap (λ (n : ℕ). line_of s n min_zoom_key 255) c.requires) None _
    ∙ on s _ _ _ _ (λ k. (t1 k).now) c.in_ok-max_zoom.ensures.read None _
    ∙ on s _ _ _ _ (λ k. (t2 k).now) c.in_ok-min_points.ensures.read None _
    ∙ on s _ _ _ _ (λ k. (t3 k).now) c.in_ok-radius.ensures.read None _
    ∙ on s _ _ _ _ (λ k. (t4 k).now) c.in_ok-extent.ensures.read None _
    ∙ on s _ _ _ _ (λ k. (t5 k).now) c.in_ok-node_size.ensures.read None _
    ∙ off s _ _ _ _ (λ k. (t6 k).now) c.in_err-count.ensures.read None _))

pub returns-clause-read : goal.returns-clause-read
unfolding head_of_text
returns-clause-read c =
    let s = c.args.self.now.text.now in
    let t1 = c.line.ensures.text in
    let t2 = c.line-2.ensures.text ∙ t1 in
    let t3 = c.line-3.ensures.text ∙ t2 in
    let t4 = c.line-4.ensures.text ∙ t3 in
    let t5 = c.line-5.ensures.text ∙ t4 in
    let t6 = c.line-6.ensures.text ∙ t5 in
    sym (on s _ _ _ _ refl (c.in_ok-min_zoom.ensures.read ∙ ap (λ (n : ℕ). line_of s n min_zoom_key 255) c.requires) None _
    ∙ on s _ _ _ _ (λ k. (t1 k).now) c.in_ok-max_zoom.ensures.read None _
    ∙ on s _ _ _ _ (λ k. (t2 k).now) c.in_ok-min_points.ensures.read None _
    ∙ on s _ _ _ _ (λ k. (t3 k).now) c.in_ok-radius.ensures.read None _
    ∙ on s _ _ _ _ (λ k. (t4 k).now) c.in_ok-extent.ensures.read None _
    ∙ on s _ _ _ _ (λ k. (t5 k).now) c.in_ok-node_size.ensures.read None _
    ∙ on s _ _ _ _ (λ k. (t6 k).now) c.in_ok-count.ensures.read None _)
