-- Buffers that have their shapes.
use Rattle.std.proofs.Common.{◌≡◌, ℤ, List, [], ◌∷◌, ◌++◌, length, map}
use Rattle.std.specs.Global.{Vec}
use Rattle.dd_kernels.specs.declared.shape.Shape.{Shape}
use Rattle.dd_kernels.specs.Shapes.{HaveShapes, size_of}

-- one more of each
pub have_more : (ss : List Shape) (bufs : List (Vec ℤ)) (s : Shape) (buf : Vec ℤ) → HaveShapes ss (map (λ b. b.items) bufs) → length buf.items ≡ size_of s → HaveShapes (ss ++ s ∷ []) (map (λ b. b.items) (bufs ++ buf ∷ []))
have_more [] [] s buf have long = (long, tt)
have_more [] (y ∷ ys) s buf have long = absurd have
have_more (t ∷ ts) [] s buf have long = absurd have
have_more (t ∷ ts) (y ∷ ys) s buf have long = (have.0, have_more ts ys s buf have.1 long)
