-- What anything that takes pieces of text becomes by several of them, one behind another.
use Rattle.std.proofs.Common.{◌≡◌, ℕ, List, ◌++◌, refl, sym, ap, ◌∙◌}
use Rattle.sfm_cert.specs.Answer.{text_of}
use Rattle.sfm_cert.proofs.AnswerLines.{text_of-append}

module _ {S : Type 0} (after : S → List ℕ → S)
    (joined : (out : S) (x y : List ℕ) → after (after out x) y ≡ after out (x ++ y)) where
  -- two pieces
  pub both : (from out new : S) (x y : List ℕ) → out ≡ after from x → new ≡ after out y
      → new ≡ after from (x ++ y)
  both from out new x y first second = second ∙ ap (λ o. after o y) first ∙ joined from x y

  -- what was put so far, and one more piece
  pub appended : (from out new : S) (lines line more : List ℕ) → out ≡ after from lines
      → new ≡ after out line → more ≡ lines ++ line → new ≡ after from more
  appended from out new lines line more so_far put next = both from out new lines line so_far put
      ∙ ap (after from) (sym next)

  -- the same where the pieces are lines
  pub appended_lines : (from out new : S) (lines line more : List (List ℕ))
      → out ≡ after from (text_of lines) → new ≡ after out (text_of line) → more ≡ lines ++ line
      → new ≡ after from (text_of more)
  appended_lines from out new lines line more so_far put next =
      appended from out new (text_of lines) (text_of line) (text_of more) so_far put
      (ap text_of next ∙ text_of-append lines line)

  pub three : (o o1 o2 o3 : S) (a b c : List ℕ) → o1 ≡ after o a → o2 ≡ after o1 b → o3 ≡ after o2 c
      → o3 ≡ after o (a ++ (b ++ c))
  three o o1 o2 o3 a b c h1 h2 h3 = both o o1 o3 a (b ++ c) h1 (both o1 o2 o3 b c h2 h3)

  pub four : (o o1 o2 o3 o4 : S) (a b c d : List ℕ) → o1 ≡ after o a → o2 ≡ after o1 b
      → o3 ≡ after o2 c → o4 ≡ after o3 d → o4 ≡ after o (a ++ (b ++ (c ++ d)))
  four o o1 o2 o3 o4 a b c d h1 h2 h3 h4 =
      both o o1 o4 a (b ++ (c ++ d)) h1 (three o1 o2 o3 o4 b c d h2 h3 h4)

  pub six : (o o1 o2 o3 o4 o5 o6 : S) (a b c d e f : List ℕ) → o1 ≡ after o a → o2 ≡ after o1 b
      → o3 ≡ after o2 c → o4 ≡ after o3 d → o5 ≡ after o4 e → o6 ≡ after o5 f
      → o6 ≡ after o (a ++ (b ++ (c ++ (d ++ (e ++ f)))))
  six o o1 o2 o3 o4 o5 o6 a b c d e f h1 h2 h3 h4 h5 h6 =
      three o o1 o2 o6 a b (c ++ (d ++ (e ++ f))) h1 h2 (four o2 o3 o4 o5 o6 c d e f h3 h4 h5 h6)

  pub seven : (o o1 o2 o3 o4 o5 o6 o7 : S) (a b c d e f g : List ℕ) → o1 ≡ after o a
      → o2 ≡ after o1 b → o3 ≡ after o2 c → o4 ≡ after o3 d → o5 ≡ after o4 e → o6 ≡ after o5 f
      → o7 ≡ after o6 g
      → o7 ≡ after o (a ++ (b ++ (c ++ (d ++ (e ++ (f ++ g))))))
  seven o o1 o2 o3 o4 o5 o6 o7 a b c d e f g h1 h2 h3 h4 h5 h6 h7 =
      both o o1 o7 a (b ++ (c ++ (d ++ (e ++ (f ++ g))))) h1
      (six o1 o2 o3 o4 o5 o6 o7 b c d e f g h2 h3 h4 h5 h6 h7)

  pub eight : (o o1 o2 o3 o4 o5 o6 o7 o8 : S) (a b c d e f g h : List ℕ) → o1 ≡ after o a
      → o2 ≡ after o1 b → o3 ≡ after o2 c → o4 ≡ after o3 d → o5 ≡ after o4 e → o6 ≡ after o5 f
      → o7 ≡ after o6 g → o8 ≡ after o7 h
      → o8 ≡ after o (a ++ (b ++ (c ++ (d ++ (e ++ (f ++ (g ++ h)))))))
  eight o o1 o2 o3 o4 o5 o6 o7 o8 a b c d e f g h h1 h2 h3 h4 h5 h6 h7 h8 =
      both o o1 o8 a (b ++ (c ++ (d ++ (e ++ (f ++ (g ++ h)))))) h1
      (seven o1 o2 o3 o4 o5 o6 o7 o8 b c d e f g h h2 h3 h4 h5 h6 h7 h8)

  -- three lists of lines
  pub three_lines : (o o1 o2 o3 : S) (a b c : List (List ℕ)) → o1 ≡ after o (text_of a)
      → o2 ≡ after o1 (text_of b) → o3 ≡ after o2 (text_of c) → o3 ≡ after o (text_of (a ++ b ++ c))
  three_lines o o1 o2 o3 a b c h1 h2 h3 =
      appended_lines o o2 o3 (a ++ b) c (a ++ b ++ c)
      (appended_lines o o1 o2 a b (a ++ b) h1 h2 refl) h3 refl
