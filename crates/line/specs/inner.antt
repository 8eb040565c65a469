-- What writing into a lent slice leaves. The prover holds the code to it; what is printed is said by `Line`.
pub mod Written
