mod Answered
mod Refusing
mod RemovalsSound
mod VerdictsSound
mod FormsFit
mod RequestsFit
mod AnswersSound
mod WorldSound
