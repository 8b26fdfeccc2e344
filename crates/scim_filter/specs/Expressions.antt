-- What contracts see of a filter: its tests and how they are joined.
use Rattle.scim_filter.specs.declared.terms.Test.{Test}
use Rattle.scim_filter.specs.declared.filters.Node.{Node}
use Rattle.scim_filter.specs.declared.filters.Node.TheVariants as nodes

-- one test; both operands; at least one of the operands; not the operand
pub data Expression : Type 0 where
  Only : (test : Test) → Expression
  Both : (left : Expression) → (right : Expression) → Expression
  Either : (left : Expression) → (right : Expression) → Expression
  Negated : (inner : Expression) → Expression

-- the expression of a tree in memory
abbrev pub expression_of : Node → Expression
expression_of (nodes.Test test) = Only test
expression_of (nodes.And' p left q right) = Both (expression_of left) (expression_of right)
expression_of (nodes.Or' p left q right) = Either (expression_of left) (expression_of right)
expression_of (nodes.Not' p inner) = Negated (expression_of inner)
